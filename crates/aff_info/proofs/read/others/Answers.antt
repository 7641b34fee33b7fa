use Rattle.aff_info.specs.Reading.{others}
use Rattle.aff_info.proofs.Runs.{others_skip, others_keep}
use Rattle.aff_info.proofs.read.others.Goals as goal
use Rattle.aff_info.proofs.read.others.Goals.{then-not-is_among+in_ok-push, else-not-is_among}

pub loop-place-preserved : goal.loop-place-preserved
loop-place-preserved c = elim c.if-not-is_among.branch [
  | then-not-is_among+in_ok-push w ↦ rw (w.places-is, w.in_ok-push.ensures.items) (others_keep c.args.firsts.now c.args.count c.loop-place.place c.loop-place.places.items (others c.args.firsts.now 0 c.args.count) c.loop-place-test.true w.if-not-is_among.ensures c.loop-place.invariant)
  | else-not-is_among w ↦ rw w.places-is (others_skip c.args.firsts.now c.args.count c.loop-place.place c.loop-place.places.items (others c.args.firsts.now 0 c.args.count) c.loop-place-test.true w.if-not-is_among.ensures c.loop-place.invariant)
]
