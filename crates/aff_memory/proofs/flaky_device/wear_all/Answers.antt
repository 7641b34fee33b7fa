use Rattle.aff_memory.specs.Flaked.{worn}
use Rattle.aff_memory.proofs.Worn.{one_more}
use Rattle.aff_memory.proofs.flaky_device.wear_all.Goals as goal

pub loop-one-preserved : goal.loop-one-preserved
loop-one-preserved c = one_more (worn c.args.first c.args.end) _ _ _ _ _ c.loop-one-test.true c.loop-one.invariant c.wear.ensures
