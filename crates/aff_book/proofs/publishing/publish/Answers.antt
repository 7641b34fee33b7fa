use Rattle.std.proofs.Common.{◌≡◌, ap, sym, subst, subst₂, true≢false}
use Rattle.std.specs.Prelude.{Contains}
use Rattle.aff_model.specs.History.{Part}
use Rattle.aff_book.proofs.publishing.publish.Goals as goal

-- the claim is held, and not published
pub unreachable-requires : goal.unreachable-requires
unreachable-requires g c =
    let e : c.piece.inside.extent ≡ c.args.piece.extent = ap (λ (p : Part g.row.R.Denot). p.extent) c.piece.view_is in
    let k : c.piece.inside.claimant ≡ c.args.piece.claimant = ap (λ (p : Part g.row.R.Denot). p.claimant) c.piece.view_is in
    let held = subst₂ (λ x n. Contains c.args.seat.now.view.held (x, n)) (sym e) (sym k) c.requires.held in
    true≢false (sym (c.in_default-publish_step.ensures.succeeds held (λ out. c.requires.unpublished (subst (λ x. Contains c.args.seat.now.view.out x) e out))))
