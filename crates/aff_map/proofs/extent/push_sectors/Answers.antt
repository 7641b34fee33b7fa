use Rattle.std.proofs.Common.{◌+◌, ◌*◌, refl, arith}
use Rattle.std.specs.Prelude.{Some}
use Rattle.aff_map.specs.Building.{sector_spot}
use Rattle.aff_map.proofs.Adding.{Adds-bounds, Adds-then}
use Rattle.aff_map.proofs.Sectors.{Adds-sector}
use Rattle.aff_map.proofs.extent.push_sectors.Goals as goal

pub loop-sector-preserved : goal.loop-sector-preserved
loop-sector-preserved c =
    Adds-then (c.args.extent.at + 512 * c.args.first) (c.args.extent.at + 512 * c.loop-sector.sector) (c.args.extent.at + 512 * (c.loop-sector.sector + 1)) (sector_spot c.args.extent c.args.bad.now (Some c.args.place)) _ _ _
    (omega arith) (omega arith) c.loop-sector.invariant
    (Adds-sector c.args.extent c.args.bad.now c.args.place c.kept-kept.result c.loop-sector.sector c.run_of.result _ _ c.requires.whole c.kept-kept.ensures.value c.run_of.ensures.at c.run_of.ensures.end c.run_of.ensures.spots c.in_ok-push_run.ensures)

pub returns : goal.returns
returns c = Adds-bounds _ _ _ _ (sector_spot c.args.extent c.args.bad.now (Some c.args.place)) _ _ refl (omega arith) c.loop-sector.invariant
