-- How far a script has been read.
use Rattle.std.specs.Prelude.{◌≡◌, ℕ, List, [], ◌∷◌, ◌++◌}
use Rattle.aff_plan.specs.Text.{NumberedLine}
use Rattle.aff_script.specs.declared.line.Said.{Said}
use Rattle.aff_script.specs.declared.line.Said.TheVariants.{Begin, Ask}
use Rattle.aff_script.specs.declared.script.Request.{Request}
use Rattle.aff_script.specs.Refused.{IsFull, IsPastEnd, IsTooLong, SaysThere}
use Rattle.aff_script.specs.Script.{AreLinesOf, IsScript}

-- the line says this behind these sessions, and breaks no rule
pub record IsTaken (size : ℕ) (sessions : List (List Request)) (line : List ℕ) (said : Said) : Type 0 where
  pub there : SaysThere sessions line said
  pub room : ¬ (IsFull sessions said)
  pub short : ¬ (IsTooLong said)
  pub inside : ¬ (IsPastEnd size said)

-- the sessions with what a line says: a session more, or a request more of the last one
abbrev pub Adds : List (List Request) → Said → List (List Request) → Type 0
Adds sessions Begin more = more ≡ sessions ++ [] ∷ []
Adds sessions (Ask r) more =
    (earlier : List (List Request)) × (requests : List Request)
    × (sessions ≡ earlier ++ requests ∷ []) × (more ≡ earlier ++ (requests ++ r ∷ []) ∷ [])

-- the first ones of the lines, up to some others, are those of these sessions
pub record AreTaken (size : ℕ) (lines after : List NumberedLine) (sessions : List (List Request)) : Type 0 where
  pub before : List NumberedLine
  pub are : lines ≡ before ++ after
  pub said : AreLinesOf before sessions
  pub script : IsScript size sessions
