use Rattle.std.proofs.Common.{◌+◌}
use Rattle.std.proofs.lemmas.Result.{on_ok_weaker}
use Rattle.aff_map.proofs.Spots.{Adds-published}
use Rattle.aff_map.proofs.entries.push_piece.Goals as goal

pub returns : goal.returns
returns g c =
    on_ok_weaker c.push_extent.result
    (Adds-published c.args.extent c.args.extent.at (c.args.extent.at + c.args.extent.len) c.args.piece.now _ c.deref.result.now c.deref-2.result.now _ _ c.piece.view_is c.deref.ensures.value c.deref-2.ensures.value)
    c.push_extent.ensures
