-- How far a text has been read.
use Rattle.std.specs.Prelude.{◌≡◌, ℕ, ◌==◌, min, List, [], ◌∷◌, ◌++◌, map, Option, None, Some}
use Rattle.std.specs.Borrow.{Bor}
use Rattle.std.specs.List.{slice_split}
use Rattle.aff_model.specs.declared.extent.Extent.{Extent}
use Rattle.aff_plan.specs.declared.error.PlanError.{PlanError}
use Rattle.aff_plan.specs.declared.error.PlanError.TheVariants.{Shape, Number}
use Rattle.aff_plan.specs.declared.line.Misread.{Misread}
use Rattle.aff_plan.specs.declared.line.Misread.TheVariants as misread
use Rattle.aff_plan.specs.Line.{HasShape, LacksNumber, IsExtentLine}
use Rattle.aff_plan.specs.Refused.{AreLinesOf}
use Rattle.aff_plan.specs.Text.{NumberedLine, numbers_of}

-- the parts of a text behind a byte at which it was cut; none where it was not cut
abbrev pub parts_behind : ℕ → Option (Bor (List ℕ)) → List (List ℕ)
parts_behind byte None = []
parts_behind byte (Some rest) = slice_split (λ b. b == byte) rest.now

-- an extent as it is kept: a priority that no byte has stands as the greatest one that a byte has, which no plan has either
abbrev pub kept_of : Extent → Extent
kept_of e = record { at = e.at; len = e.len; priority = min e.priority 255 }

-- the line is that of an extent that is kept so
pub record IsKeptLine (line : List ℕ) (kept : Extent) : Type 0 where
  pub extent : Extent
  pub is_line : IsExtentLine line extent
  pub is : kept ≡ kept_of extent

-- the first ones of the lines, up to some others, are those of the extents that are kept, and have these numbers
pub record AreRead (lines after : List NumberedLine) (numbers : List ℕ) (kept : List Extent) : Type 0 where
  pub before : List NumberedLine
  pub are : lines ≡ before ++ after
  pub numbered : numbers ≡ numbers_of before
  pub extents : List Extent
  pub said : AreLinesOf before extents
  pub keeps : kept ≡ map kept_of extents

-- the lines end, or the first one of them has another shape or lacks a number
abbrev pub IsStop : List NumberedLine → Option PlanError → Type 0
IsStop after None = after ≡ []
IsStop after (Some (Shape n)) = (line : List ℕ) × (others : List NumberedLine) × (after ≡ (n, line) ∷ others) × (¬ (HasShape line))
IsStop after (Some (Number n)) = (line : List ℕ) × (others : List NumberedLine) × (after ≡ (n, line) ∷ others) × LacksNumber line
IsStop after (Some error) = ⊥

-- the lines are read as far as they can be by themselves
abbrev pub IsReading : List NumberedLine → List ℕ → List Extent → Option PlanError → Type 0
IsReading lines numbers kept stop = (after : List NumberedLine) × AreRead lines after numbers kept × IsStop after stop

-- what is wrong with a line by itself
abbrev pub IsMisread : List ℕ → Misread → Type 0
IsMisread line misread.Shape = ¬ (HasShape line)
IsMisread line misread.Number = LacksNumber line
