use Rattle.std.proofs.Common.{◌≡◌, map}
use Rattle.std.specs.Arc.{arc_value}
use Rattle.aff_analyst.proofs.Raising.{HasAsked}
use Rattle.aff_analyst.proofs.raise.raise_missed.Given as goal

-- what was asked for so far
abbrev pub invariant-loop-place : goal.invariant-loop-place
invariant-loop-place g l =
    (l.pass.claims ≡ l.initial.pass.claims) × HasAsked l.plan.extents (map arc_value l.pieces) l.index l.at l.len l.initial.place l.place l.initial.pass.view l.pass.view
