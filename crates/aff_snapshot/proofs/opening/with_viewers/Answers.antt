use Rattle.std.proofs.Common.{◌≡◌, [], ◌∷◌, All, length, length-append, sym, ap, ◌∙◌, subst, arith}
use Rattle.std.proofs.lemmas.List.Elements.{All-push}
use Rattle.aff_snapshot.specs.Lists.{Beginning}
use Rattle.aff_snapshot.proofs.opening.with_viewers.Goals as goal

pub loop-number-preserved : goal.loop-number-preserved
loop-number-preserved g c =
    let P : Beginning g.row.R.Denot → Type 0 = λ v. v ≡ c.args.publisher in
    let few = c.loop-number.invariant.2 in (
      c.viewer.ensures.same ∙ c.loop-number.invariant.0,
      subst (All P) (sym c.push_reserved.ensures.items) (All-push P c.loop-number.viewers.items c.in-Ok.viewer c.loop-number.invariant.1 (c.in-Ok.ensures.viewer ∙ c.loop-number.invariant.0)),
      omega (arith, ap length c.push_reserved.ensures.items ∙ length-append c.loop-number.viewers.items (c.in-Ok.viewer ∷ [])),
    )
