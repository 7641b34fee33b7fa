use Rattle.std.proofs.Common.{◌≡◌, fold, sym, ap, ◌∙◌, subst}
use mathlib.Core.List.{IsPrefix}
use Rattle.aff_snapshot.specs.Lists.{Reached}
use Rattle.aff_snapshot.proofs.Seeing.{sees}
use Rattle.aff_snapshot.proofs.publisher.show.Goals as goal

pub publish_as-hand-requires : goal.publish_as-hand-requires
publish_as-hand-requires g c next is =
    let now : Reached = c.args.hand.desk.shown.value in
    let last : Reached → Reached → Reached = λ front n. n in
    let same : next ≡ c.args.to.1.now = is ∙ ap (fold last now) c.requires.pending in
    sees _ _ now next (ap (λ (r : Reached). r.list) same ∙ c.requires.longer.0) (subst (λ (r : Reached). IsPrefix now.names r.names) (sym same) c.requires.longer.1)
