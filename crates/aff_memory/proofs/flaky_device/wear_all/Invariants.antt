use Rattle.std.proofs.Common.{◌≡◌, ◌++◌, take, drop, map}
use Rattle.aff_memory.specs.Flaked.{worn}
use Rattle.aff_memory.proofs.flaky_device.wear_all.Given as goal

abbrev pub invariant-loop-one : goal.invariant-loop-one
invariant-loop-one l = l.flaky ≡ map (worn l.first l.end) (take l.one-index l.initial.flaky) ++ drop l.one-index l.initial.flaky
