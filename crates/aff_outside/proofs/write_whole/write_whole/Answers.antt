use Rattle.aff_outside.proofs.Written.{part_more, part_kept}
use Rattle.aff_outside.proofs.write_whole.write_whole.Goals.{in-Ok, in-Err}
use Rattle.aff_outside.proofs.write_whole.write_whole.Goals as goal

pub loop-preserved : goal.loop-preserved
loop-preserved g c = elim c.match-write.branch [
  | in-Ok w ↦ part_more _ _ _ _ _ _ _ w.written-is w.in-Ok.ensures.bound c.loop.invariant w.in-Ok.ensures.bytes
  | in-Err w ↦ part_kept _ _ _ _ _ _ w.written-is c.loop.invariant w.in-Err.ensures.bytes
]
