-- Lines of a text.
use Rattle.std.specs.Prelude.{ℕ, ◌==◌, List}
use Rattle.std.specs.List.{slice_split}

-- the lines of a text: its parts between line feeds; what stands behind the last one is a line too, perhaps an empty one
abbrev pub lines_of : List ℕ → List (List ℕ)
lines_of text = slice_split (λ b. b == 10) text
