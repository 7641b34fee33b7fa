use Rattle.std.proofs.Common.{take}
use Rattle.std.specs.List.{All}
use Rattle.aff_map.specs.Mappable.{IsNumbered}
use Rattle.aff_map.proofs.tests.are_small.Given as goal

abbrev pub invariant-loop-place : goal.invariant-loop-place
invariant-loop-place l = All IsNumbered (take l.place-index l.places)
