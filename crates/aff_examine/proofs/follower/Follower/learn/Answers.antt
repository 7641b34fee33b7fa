use Rattle.std.proofs.Common.{◌≡◌, IfSome, length, sym, ap, subst, ◌∙◌, ◌≤◌}
use mathlib.Core.List.{IsPrefix}
use Rattle.aff_snapshot.specs.Lists.{HasEvery}
use Rattle.aff_examine.specs.Following.{Following}
use Rattle.aff_examine.proofs.follower.Follower.learn.Goals as goal
use Rattle.aff_examine.proofs.follower.Follower.learn.Goals.{in-Some, in-None}

pub returns-clause-begins : goal.returns-clause-begins
returns-clause-begins g c t = elim c.match-self.branch [
  | in-Some w ↦ subst (λ o. IfSome o (λ v. length v.pieces ≤ length c.args.told.pieces → IsPrefix v.pieces c.args.told.pieces)) (sym (sym (ap (λ (f : Following _ _). f.viewer) c.self.view_is) ∙ w.in-Some.is)) (w.learn.ensures.begins (sym w.result-is ∙ t))
  | in-None w ↦ subst (λ o. IfSome o (λ v. length v.pieces ≤ length c.args.told.pieces → IsPrefix v.pieces c.args.told.pieces)) (sym (sym (ap (λ (f : Following _ _). f.viewer) c.self.view_is) ∙ w.in-None.is)) tt
]

pub returns-clause-whole : goal.returns-clause-whole
returns-clause-whole g c t =
    let told = c.args.told.pieces in
    let plan = c.args.self.now.plan in
    elim c.match-self.branch [
      | in-Some w ↦ (
          let same : w.in-Some.viewer.list.plan ≡ plan = subst (λ o. IfSome o (λ v. v.list.plan ≡ c.self.inside.reader.plan)) w.in-Some.is c.self.invariant ∙ ap (λ (f : Following _ _). f.plan) c.self.view_is in
          subst (λ o. IfSome o (λ v. HasEvery plan told → IsPrefix v.pieces told)) (sym (sym (ap (λ (f : Following _ _). f.viewer) c.self.view_is) ∙ w.in-Some.is))
          (λ every. w.learn.ensures.whole (sym w.result-is ∙ t) (subst (λ p. HasEvery p told) (sym same) every)))
      | in-None w ↦ subst (λ o. IfSome o (λ v. HasEvery plan told → IsPrefix v.pieces told)) (sym (sym (ap (λ (f : Following _ _). f.viewer) c.self.view_is) ∙ w.in-None.is)) tt
    ]
