-- The words of a publication's line.
use Rattle.std.specs.Prelude.{ℕ, List, ◌++◌, codes}
use Rattle.std.specs.Fmt.{decimal}

-- `publication FRONT EXTENT CLAIMANT`
abbrev pub numbers_text : ℕ → ℕ → ℕ → List ℕ
numbers_text front extent claimant = codes "publication " ++ (decimal front ++ (codes " " ++ (decimal extent ++ (codes " " ++ decimal claimant))))

-- the numbers, who published, the sectors and the places, with a space between each two
abbrev pub line_of_words : List ℕ → List ℕ → List ℕ → List ℕ → List ℕ
line_of_words numbers how bad places = numbers ++ (codes " " ++ (how ++ (codes " " ++ (bad ++ (codes " " ++ (places ++ codes "\n"))))))
