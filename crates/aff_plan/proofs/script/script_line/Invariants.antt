use Rattle.std.proofs.Common.{◌≡◌, ◌+◌, ◌≤◌, List, ◌++◌, ℕ, length}
use Rattle.aff_plan.specs.Reading.{parts_behind}
use Rattle.aff_spec.specs.Lines.{lines_of}
use Rattle.aff_plan.proofs.Walk.{AreNoSession, room}
use Rattle.aff_plan.proofs.script.script_line.Given as goal

abbrev pub invariant-lines : goal.invariant-lines
invariant-lines l = record {
  before : List (List ℕ);
  are : lines_of l.text ≡ before ++ parts_behind 10 l.rest;
  none : AreNoSession before;
  count : length before ≡ l.number;
  few : l.number + room l.rest ≤ length l.text + 1;
}

abbrev pub decreases-lines : goal.decreases-lines
decreases-lines l = room l.rest
