use Rattle.std.proofs.Common.{refl}
use Rattle.aff_map.proofs.Few.{AreMappable-pair}
use Rattle.aff_map.proofs.tests.entries_of_two.Goals as goal

pub entries_of-requires : goal.entries_of-requires
entries_of-requires c =
    AreMappable-pair c.in_ok-plan.plan.extents c.in_ok-extents.extents.items c.deref.result.now c.in_ok-pieces.pieces.items c.in_ok-piece.field-0 c.in_ok-piece-2.field-0 _ _ c.args.first c.args.second
    c.in_ok-plan.ensures.plan.1 c.in_ok-extents.ensures.items refl refl c.deref.ensures.value c.in_ok-pieces.ensures.items c.in_ok-piece.ensures c.in_ok-piece-2.ensures c.requires.other c.requires.known.0 c.requires.known.1
