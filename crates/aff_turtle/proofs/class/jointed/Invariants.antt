use Rattle.std.proofs.Common.{◌≡◌, ◌+◌, drop}
use Rattle.aff_turtle.specs.Characters.{jointed}
use Rattle.aff_turtle.proofs.class.jointed.Given as goal

abbrev pub invariant-loop-place : goal.invariant-loop-place
invariant-loop-place l = l.place + jointed l.class l.joint l.next (drop l.place l.chars) ≡ jointed l.class l.joint l.next l.chars
