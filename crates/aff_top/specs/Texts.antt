-- The text of a run: which one is taken, and by which line another is refused.
use Rattle.std.specs.Prelude.{◌≡◌, ℕ, ◌<◌, ◌≤◌, List, ◌++◌, length, drop, Option, IfSome, codes}
use Rattle.std.specs.Fmt.{decimal}
use Rattle.aff_model.specs.declared.extent.Extent.{Extent}
use Rattle.aff_model.specs.declared.limits.TheConstants.{MAX_TEXT}
use Rattle.aff_plan.specs.Refused.{IsPlanRefused, IsTextOf}
use Rattle.aff_plan.specs.declared.error.PlanError.{PlanError}
use Rattle.aff_plan.specs.declared.error.PlanError.TheVariants.{Shape, Number, Sector, TooLong, TooMany, PastEnd, Overlap, Priority, Total, Memory}
use Rattle.aff_script.specs.declared.error.ScriptError.{ScriptError}
use Rattle.aff_script.specs.declared.error.ScriptError.TheVariants as wrong
use Rattle.aff_script.specs.declared.script.Request.{Request}
use Rattle.aff_script.specs.Refused.{IsScriptRefused}
use Rattle.aff_script.specs.Script.{IsScriptText}
use Rattle.aff_script.specs.Split.{IsSplit}
use Rattle.aff_top.specs.declared.fault.Fault.{Fault}
use Rattle.aff_top.specs.declared.fault.Fault.TheVariants.{Text}
use Rattle.aff_top.specs.declared.fault.TextFault.{TextFault}
use Rattle.aff_top.specs.declared.fault.TextFault.TheVariants as fault

-- the text has this script: it begins with the first line that is exactly `session`, or there is none
pub record HasScript (size : ℕ) (text : List ℕ) (script : List (List Request)) : Type 0 where
  pub offset : ℕ
  pub line : ℕ
  pub split : IsSplit text offset line
  pub says : IsScriptText size line (drop offset text) script

-- the script of the text is refused
pub record HasBadScript (size : ℕ) (text : List ℕ) (error : ScriptError) : Type 0 where
  pub offset : ℕ
  pub line : ℕ
  pub split : IsSplit text offset line
  pub refused : IsScriptRefused size line (drop offset text) error

-- a text that may be acquired by: that of a plan, with this script behind it, and at most 16,777,216 bytes long
pub record IsRunText (size block : ℕ) (extents : List Extent) (script : List (List Request)) (text : List ℕ) : Type 0 where
  pub is_text : IsTextOf size block text extents
  pub has_script : HasScript size text script
  pub short : length text ≤ MAX_TEXT

-- for what a text is refused: it is too long; else it is no plan's; else its script is refused
abbrev pub IsTextRefused : ℕ → ℕ → List ℕ → TextFault → Type 0
IsTextRefused size block text fault.TooLong = MAX_TEXT < length text
IsTextRefused size block text (fault.Plan error) = (length text ≤ MAX_TEXT) × IsPlanRefused size block text error
IsTextRefused size block text (fault.Script error) =
    (length text ≤ MAX_TEXT) × ((extents : List Extent) × IsTextOf size block text extents) × HasBadScript size text error

-- the fault is that of a refused text
pub record IsRefusedAs (size block : ℕ) (text : List ℕ) (fault : Fault) : Type 0 where
  pub why : TextFault
  pub is : fault ≡ Text why
  pub refused : IsTextRefused size block text why

-- the fault is that of a refused text, which is this one where the source tells
pub record IsRefusedFrom (size block : ℕ) (left : Option (List ℕ)) (fault : Fault) : Type 0 where
  pub why : TextFault
  pub is : fault ≡ Text why
  pub refused : IfSome left (λ text. IsTextRefused size block text why)

-- `error plan LINE WORD`
abbrev pub plan_word : ℕ → List ℕ → List ℕ
plan_word n word = codes "error plan " ++ (decimal n ++ word)

-- the line of a text that is no plan's; want of memory says nothing of it
abbrev pub plan_line : PlanError → List ℕ
plan_line (Shape n) = plan_word n (codes " shape\n")
plan_line (Number n) = plan_word n (codes " number\n")
plan_line (Sector n) = plan_word n (codes " sector\n")
plan_line (TooLong n) = plan_word n (codes " toolong\n")
plan_line (TooMany n) = plan_word n (codes " toomany\n")
plan_line (PastEnd n) = plan_word n (codes " pastend\n")
plan_line (Priority n) = plan_word n (codes " priority\n")
plan_line (Total n) = plan_word n (codes " total\n")
plan_line (Overlap n m) = plan_word n (codes " overlap " ++ (decimal m ++ codes "\n"))
plan_line Memory = codes "error memory\n"

-- `error script LINE WORD`
abbrev pub script_word : ℕ → List ℕ → List ℕ
script_word n word = codes "error script " ++ (decimal n ++ word)

-- the line of a text whose script is refused; want of memory says nothing of it
abbrev pub script_line : ScriptError → List ℕ
script_line (wrong.Shape n) = script_word n (codes " shape\n")
script_line (wrong.Number n) = script_word n (codes " number\n")
script_line (wrong.TooMany n) = script_word n (codes " toomany\n")
script_line (wrong.TooLong n) = script_word n (codes " toolong\n")
script_line (wrong.PastEnd n) = script_word n (codes " pastend\n")
script_line wrong.Memory = codes "error memory\n"

abbrev pub text_line : TextFault → List ℕ
text_line fault.TooLong = codes "error text\n"
text_line (fault.Plan error) = plan_line error
text_line (fault.Script error) = script_line error
