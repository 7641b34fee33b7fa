use Rattle.std.proofs.Common.{◌≡◌, ◌+◌, ◌<◌, length, arith}
use Rattle.aff_model.specs.declared.publication.Place.TheVariants.{Zero}
use Rattle.aff_analyst.proofs.Stored.{before_next}
use Rattle.aff_analyst.proofs.chunk.stored_before.Goals as goal

pub loop-k-preserved : goal.loop-k-preserved
loop-k-preserved c =
    let next = before_next c.args.places.now c.loop-k.k Zero (omega (arith, c.loop-k-test.true, c.requires)) in
    record {
      counted = omega (arith, c.loop-k.invariant.counted, c.stored_in-stored.ensures.count, next);
      few = omega (arith, c.loop-k.invariant.few, c.stored_in-stored.ensures.few);
    }
