use Rattle.std.proofs.Common.{◌≡◌, ◌+◌, drop}
use Rattle.std.specs.List.{prefix_len}
use Rattle.aff_turtle.specs.Characters.{is_in}
use Rattle.aff_turtle.proofs.class.run.Given as goal

abbrev pub invariant-loop-place : goal.invariant-loop-place
invariant-loop-place l = l.place + prefix_len (is_in l.class) (drop l.place l.chars) ≡ prefix_len (is_in l.class) l.chars
