use Rattle.std.proofs.Common.{sym, ◌∙◌, ap, subst}
use Rattle.aff_snapshot.specs.Codes.{name_of}
use Rattle.aff_snapshot.specs.Lists.{Reached}
use Rattle.aff_snapshot.specs.Log.{IsFirst}
use Rattle.aff_snapshot.proofs.Steps.{adds}
use Rattle.aff_snapshot.proofs.front.Front.add.Goals as goal

pub compare_exchange-found-requires : goal.compare_exchange-found-requires
compare_exchange-found-requires g c =
    let count = c.requires.count in
    let offer = c.plain-offer.ensures in
    let pen = c.no_pen-pen.ensures in
    let book = ap (λ (r : Reached). r.list.book) c.self.view_is in
    let first : IsFirst c.self.inside.seen.log (name_of g.R.Marked.marks c.args.piece.now) = subst (λ (r : Reached). IsFirst r.names (name_of g.R.Marked.marks c.args.piece.now)) (sym c.self.view_is) c.requires.first in (
      ap (λ w. w.tracked) count,
      book ∙ sym (ap (λ w. w.book) count),
      pen.0 ∙ (book ∙ sym (ap (λ w. w.book) count)),
      offer.0,
      rw (ap (λ w. w.key) count, pen.1, offer.1, offer.3) (adds c.self.inside.seen.log (name_of g.R.Marked.marks c.args.piece.now) c.self.inside.count (sym c.self.invariant.0) first),
    )
