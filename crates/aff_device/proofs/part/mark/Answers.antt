use Rattle.std.proofs.Common.{◌∙◌, refl, arith}
use Rattle.aff_device.proofs.Blocks.{marked_more}
use Rattle.aff_device.proofs.part.mark.Goals as goal

pub loop-sector-preserved : goal.loop-sector-preserved
loop-sector-preserved c = record {
  items = c.push_reserved.ensures.items ∙ marked_more _ _ _ _ _ c.loop-sector.invariant.items refl;
  room = c.push_reserved.ensures.capacity ∙ c.loop-sector.invariant.room;
  len = omega (arith, c.push_reserved.ensures.len, c.loop-sector.invariant.len);
}
