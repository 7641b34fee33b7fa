-- Which text is a plan's, and for what another is refused.
use Rattle.std.specs.Prelude.{◌≡◌, ℕ, ◌<◌, List, [], ◌∷◌, ◌++◌, length}
use Rattle.std.specs.List.{AllZip}
use Rattle.aff_model.specs.declared.extent.Extent.{Extent}
use Rattle.aff_model.specs.declared.plan.PlanFault.{PlanFault}
use Rattle.aff_model.specs.declared.plan.PlanFault.TheVariants as fault
use Rattle.aff_model.specs.Faults.{Breaks, KeepsRules, IsOverlapFault}
use Rattle.aff_model.specs.Plan.{IsPlan}
use Rattle.aff_plan.specs.declared.error.PlanError.{PlanError}
use Rattle.aff_plan.specs.declared.error.PlanError.TheVariants.{Shape, Number, Sector, TooLong, TooMany, PastEnd, Overlap, Priority, Total, Memory}
use Rattle.aff_plan.specs.Line.{HasShape, IsExtentLine, LacksNumber}
use Rattle.aff_plan.specs.Text.{NumberedLine, number_at, numbered_lines}

-- the lines are those of the extents, one by one
abbrev pub AreLinesOf : List NumberedLine → List Extent → Type 0
AreLinesOf lines extents = AllZip (λ (line : NumberedLine) (extent : Extent). IsExtentLine line.1 extent) lines extents

-- the text says these extents, and they are a plan
pub record IsTextOf (size block : ℕ) (text : List ℕ) (extents : List Extent) : Type 0 where
  pub lines : AreLinesOf (numbered_lines text) extents
  pub plan : IsPlan size block extents

-- the error names the rule of a fault, and line n
abbrev pub IsErrorAt : ℕ → PlanFault → PlanError → Type 0
IsErrorAt n (fault.Sector k) error = error ≡ Sector n
IsErrorAt n (fault.TooLong k) error = error ≡ TooLong n
IsErrorAt n fault.TooMany error = error ≡ TooMany n
IsErrorAt n (fault.PastEnd k) error = error ≡ PastEnd n
IsErrorAt n (fault.Priority k) error = error ≡ Priority n
IsErrorAt n (fault.Total k) error = error ≡ Total n
IsErrorAt n (fault.Overlap j i) error = ⊥
IsErrorAt n fault.Memory error = ⊥

-- line n is that of an extent which, behind these extents, breaks the rule that the error names, and none before it
pub record BreaksRule (size block n : ℕ) (extents : List Extent) (line : List ℕ) (error : PlanError) : Type 0 where
  pub extent : Extent
  pub is_line : IsExtentLine line extent
  pub fault : PlanFault
  pub breaks : Breaks size block (extents ++ extent ∷ []) (length extents) fault
  pub named : IsErrorAt n fault error

-- what is wrong with line n, behind these extents: its shape, else a number of it, else a rule that its extent breaks
abbrev pub IsWrong : ℕ → ℕ → ℕ → List Extent → List ℕ → PlanError → Type 0
IsWrong size block n extents line (Shape m) = (m ≡ n) × (¬ (HasShape line))
IsWrong size block n extents line (Number m) = (m ≡ n) × LacksNumber line
IsWrong size block n extents line error = BreaksRule size block n extents line error

-- the error is that of the first line that is wrong: all lines before it say extents that keep the rules
pub record IsFirstWrong (size block : ℕ) (lines : List NumberedLine) (error : PlanError) : Type 0 where
  pub before : List NumberedLine
  pub number : ℕ
  pub line : List ℕ
  pub after : List NumberedLine
  pub are : lines ≡ before ++ (number, line) ∷ after
  pub extents : List Extent
  pub said : AreLinesOf before extents
  pub keep : (k : ℕ) → k < length extents → KeepsRules size block extents k
  pub wrong : IsWrong size block number extents line error

-- no line is wrong, n is the first line whose extent shares a byte with that of an earlier line, and m is the first such
pub record IsOverlapRefusal (size block : ℕ) (lines : List NumberedLine) (n m : ℕ) : Type 0 where
  pub extents : List Extent
  pub said : AreLinesOf lines extents
  pub later : ℕ
  pub earlier : ℕ
  pub overlap : IsOverlapFault size block extents later earlier
  pub later_line : n ≡ number_at lines later
  pub earlier_line : m ≡ number_at lines earlier

-- for what the lines of a text are refused: line by line, and for an overlap after all lines; want of memory says nothing
-- of them
abbrev pub AreRefused : ℕ → ℕ → List NumberedLine → PlanError → Type 0
AreRefused size block lines (Overlap n m) = IsOverlapRefusal size block lines n m
AreRefused size block lines Memory = ⊥
AreRefused size block lines error = IsFirstWrong size block lines error

-- for what a text is refused
abbrev pub IsPlanRefused : ℕ → ℕ → List ℕ → PlanError → Type 0
IsPlanRefused size block text error = AreRefused size block (numbered_lines text) error
