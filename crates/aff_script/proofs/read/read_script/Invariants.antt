use Rattle.std.proofs.Common.{◌+◌, ◌≤◌, length}
use Rattle.aff_plan.specs.Text.{kept_lines}
use Rattle.aff_script.specs.Reading.{AreTaken}
use Rattle.aff_script.specs.Script.{script_lines}
use Rattle.aff_spec.specs.Lines.{lines_of}
use Rattle.aff_script.proofs.read.read_script.Given as goal

abbrev pub invariant-lines : goal.invariant-lines
invariant-lines l = record {
  read : AreTaken l.size (script_lines l.first_line l.text) (kept_lines l.number (lines_of l.rest)) l.sessions.items;
  few : l.number + length l.rest ≤ l.first_line + length l.text;
}

abbrev pub decreases-lines : goal.decreases-lines
decreases-lines l = length l.rest
