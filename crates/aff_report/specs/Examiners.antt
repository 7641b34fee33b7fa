-- The lines of examiners: what each had to say at its end.
use Rattle.std.specs.Prelude.{ℕ, ◌+◌, List, [], ◌∷◌, ◌++◌, codes}
use Rattle.std.specs.Fmt.{decimal}

-- `examiner NUMBER FINDING`
abbrev pub examiner_line : ℕ → List ℕ → List ℕ
examiner_line number finding = codes "examiner " ++ (decimal number ++ (codes " " ++ (finding ++ codes "\n")))

-- one line a finding, in order, numbered from the one given
abbrev pub examiner_lines : ℕ → List (List ℕ) → List ℕ
examiner_lines number [] = []
examiner_lines number (finding ∷ findings) = examiner_line number finding ++ examiner_lines (number + 1) findings
