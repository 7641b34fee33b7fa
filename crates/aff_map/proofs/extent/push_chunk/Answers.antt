use Rattle.std.proofs.Common.{refl}
use Rattle.std.proofs.lemmas.Result.{on_ok_weaker}
use Rattle.aff_map.proofs.Sectors.{Adds-clear}
use Rattle.aff_map.proofs.extent.push_chunk.Goals as goal

pub returns-then-is_clean : goal.returns-then-is_clean
returns-then-is_clean c =
    on_ok_weaker c.push_run.result
    (Adds-clear c.args.extent c.args.bad.now c.args.place c.args.first c.args.last c.run_of.result _ _ c.requires.whole c.run_of.ensures.at c.run_of.ensures.end c.run_of.ensures.spots (c.if-is_clean.ensures.0 refl))
    c.push_run.ensures
