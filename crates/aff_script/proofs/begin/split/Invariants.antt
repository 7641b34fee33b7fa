use Rattle.std.proofs.Common.{◌≡◌, ◌+◌, ◌≤◌, ◌++◌, List, ℕ, length}
use Rattle.aff_script.specs.Split.{AreNoSession, ended}
use Rattle.aff_spec.specs.Lines.{lines_of}
use Rattle.aff_script.proofs.begin.split.Given as goal

abbrev pub invariant-lines : goal.invariant-lines
invariant-lines l = record {
  front : List (List ℕ);
  text : l.text ≡ ended front ++ l.rest;
  lines : lines_of l.text ≡ front ++ lines_of l.rest;
  none : AreNoSession front;
  count : l.number ≡ length front + 1;
  few : l.number + length l.rest ≤ length l.text + 1;
}

abbrev pub decreases-lines : goal.decreases-lines
decreases-lines l = length l.rest
