use Rattle.aff_outside.proofs.Filled.{filled_more, filled_still}
use Rattle.aff_outside.proofs.blocks.read_blocks.Goals.{in-Ok+else-whole-eq0, in-Err}
use Rattle.aff_outside.proofs.blocks.read_blocks.Goals as goal

pub loop-preserved : goal.loop-preserved
loop-preserved g c = elim c.match-read_some.branch [
  | in-Ok+else-whole-eq0 w ↦ filled_more _ _ _ _ _ _ _ _ _ c.requires.block w.done-is w.whole_blocks-whole.ensures.most w.whole_blocks-whole.ensures.whole w.in-Ok.ensures.bound.0 c.read_some.auto.out c.loop.invariant w.in-Ok.ensures.bytes
  | in-Err w ↦ filled_still _ _ _ _ _ _ _ c.requires.block w.done-is c.read_some.auto.out c.loop.invariant
]
