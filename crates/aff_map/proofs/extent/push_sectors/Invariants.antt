use Rattle.std.proofs.Common.{◌+◌, ◌*◌}
use Rattle.std.specs.Prelude.{Some}
use Rattle.aff_map.specs.Building.{Adds, sector_spot}
use Rattle.aff_map.proofs.extent.push_sectors.Given as goal

abbrev pub invariant-loop-sector : goal.invariant-loop-sector
invariant-loop-sector l =
    Adds (l.extent.at + 512 * l.first) (l.extent.at + 512 * l.sector) (sector_spot l.extent l.bad (Some l.place)) l.initial.entries.items l.entries.items
