use Rattle.std.proofs.Common.{refl}
use Rattle.aff_map.proofs.Few.{AreMappable-alone}
use Rattle.aff_map.proofs.tests.entries_of_one.Goals as goal

pub entries_of-requires : goal.entries_of-requires
entries_of-requires c =
    let have = c.if-not-may_have.ensures refl in
    AreMappable-alone c.in_ok-plan.plan.extents c.in_ok-extents.extents.items c.deref.result.now c.in_ok-pieces.pieces.items c.in_ok-piece.field-0 _ c.args.bad.now c.args.places.now
    c.in_ok-plan.ensures.plan.1 c.in_ok-extents.ensures.items c.deref.ensures.value c.in_ok-pieces.ensures.items c.in_ok-piece.ensures have.0 have.1 have.2
