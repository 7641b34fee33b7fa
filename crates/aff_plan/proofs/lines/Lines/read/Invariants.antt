use Rattle.std.proofs.Common.{◌+◌, ◌≤◌, length}
use Rattle.aff_plan.specs.Reading.{AreRead, parts_behind}
use Rattle.aff_plan.specs.Text.{numbered_lines}
use Rattle.aff_plan.proofs.Walk.{lines_from, room}
use Rattle.aff_plan.proofs.lines.Lines.read.Given as goal

abbrev pub invariant-lines : goal.invariant-lines
invariant-lines l = record {
  read : AreRead (numbered_lines l.text) (lines_from (l.number + 1) (parts_behind 10 l.rest)) l.self.numbers.items l.self.extents.items;
  few : l.number + room l.rest ≤ length l.text + 1;
}

abbrev pub decreases-lines : goal.decreases-lines
decreases-lines l = room l.rest
