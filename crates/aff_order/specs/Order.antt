-- Orders of extents.
use Rattle.std.specs.Prelude.{ℕ, List, length}
use Rattle.std.specs.List.{range_with_len}
use Rattle.std.specs.List.Sorted.{IsPermutation}

-- a list that has each number below its length exactly once
abbrev pub IsOrder : List ℕ → Type 0
IsOrder order = IsPermutation (range_with_len 0 (length order)) order
