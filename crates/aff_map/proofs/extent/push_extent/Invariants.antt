use Rattle.std.proofs.Common.{◌+◌, ◌*◌, min}
use Rattle.aff_map.specs.Building.{Adds, extent_spot}
use Rattle.aff_map.proofs.extent.push_extent.Given as goal

abbrev pub invariant-loop-j : goal.invariant-loop-j
invariant-loop-j l =
    Adds l.extent.at (l.extent.at + min (32768 * l.j) l.extent.len) (extent_spot l.extent l.bad l.places) l.initial.entries.items l.entries.items
