use Rattle.std.proofs.Common.{arith}
use Rattle.std.proofs.lemmas.Grind.{common_steps}
use Rattle.aff_model.proofs.Index.{range_with_len-more}
use Rattle.aff_analyst.proofs.by_place.numbers_below.Goals as goal

pub loop-number-preserved : goal.loop-number-preserved
loop-number-preserved c = let more = range_with_len-more c.loop-number.number in grind (arith, common_steps)
