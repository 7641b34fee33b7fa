-- Extents by falling priority.
use Rattle.std.specs.Prelude.{ℕ, ◌<◌, ◌≤◌, List, length, slice_index}
use Rattle.std.specs.List.{range_with_len}
use Rattle.std.specs.List.Sorted.{IsPermutation}

-- the priority of each extent, and the numbers of the extents in some order
pub record Ranked : Type 0 where
  pub priorities : List ℕ
  pub falling : List ℕ

-- the order has each extent once, and none before a more urgent one
pub record IsRanking (r : Ranked) : Type 0 where
  pub numbers : IsPermutation (range_with_len 0 (length r.priorities)) r.falling
  pub falls : (i j : ℕ) → i ≤ j → j < length r.falling → slice_index r.priorities (slice_index r.falling j) ≤ slice_index r.priorities (slice_index r.falling i)
