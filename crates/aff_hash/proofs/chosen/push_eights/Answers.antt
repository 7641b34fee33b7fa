use Rattle.std.proofs.Common.{◌+◌, ◌*◌, refl, arith}
use Rattle.aff_hash.proofs.Entries.{more_chosen}
use Rattle.aff_hash.proofs.chosen.push_eights.Goals as goal

pub groups-preserved : goal.groups-preserved
groups-preserved c =
    let i = c.groups.i in
    more_chosen c.args.bytes.now c.args.chosen.now c.args.sums.now.items _ _ _ _ (8 * i) (8 * (i + 1)) _ _ c.groups.invariant
    c.in_ok-extend_from_slice.ensures.items c.sums_of_eight.ensures c.eight_chunks-chunks.ensures.chunks refl (omega arith) (omega arith)
