use Rattle.std.proofs.Common.{◌≡◌, length, sym, ap, subst, ◌∙◌, ◌≤◌}
use mathlib.Core.List.{IsPrefix}
use Rattle.aff_snapshot.specs.Lists.{HasEvery}
use Rattle.aff_analyst.specs.Values.{Analysis}
use Rattle.aff_analyst.proofs.Fetching.{by_some, no_some, to_some}
use Rattle.aff_analyst.proofs.analyst.Analyst.learn.Goals as goal
use Rattle.aff_analyst.proofs.analyst.Analyst.learn.Goals.{in-Some, in-None}

pub returns-clause-begins : goal.returns-clause-begins
returns-clause-begins g c t = elim c.match-self.branch [
  | in-Some w ↦ to_some c.args.self.now.viewer w.in-Some.viewer (λ v. length v.pieces ≤ length c.args.told.pieces → IsPrefix v.pieces c.args.told.pieces)
      (sym (ap (λ (a : Analysis _ _). a.viewer) c.self.view_is) ∙ w.in-Some.is) (w.learn.ensures.begins (sym w.result-is ∙ t))
  | in-None w ↦ no_some c.args.self.now.viewer (λ v. length v.pieces ≤ length c.args.told.pieces → IsPrefix v.pieces c.args.told.pieces)
      (sym (ap (λ (a : Analysis _ _). a.viewer) c.self.view_is) ∙ w.in-None.is)
]

pub returns-clause-whole : goal.returns-clause-whole
returns-clause-whole g c t =
    let told = c.args.told.pieces in
    let plan = c.args.self.now.plan in
    elim c.match-self.branch [
      | in-Some w ↦ (
          let same : w.in-Some.viewer.list.plan ≡ plan = by_some c.self.inside.viewer w.in-Some.viewer (λ v. v.list.plan ≡ c.self.inside.plan) w.in-Some.is c.self.invariant.0 ∙ ap (λ (a : Analysis _ _). a.plan) c.self.view_is in
          to_some c.args.self.now.viewer w.in-Some.viewer (λ v. HasEvery plan told → IsPrefix v.pieces told)
          (sym (ap (λ (a : Analysis _ _). a.viewer) c.self.view_is) ∙ w.in-Some.is)
          (λ every. w.learn.ensures.whole (sym w.result-is ∙ t) (subst (λ p. HasEvery p told) (sym same) every)))
      | in-None w ↦ no_some c.args.self.now.viewer (λ v. HasEvery plan told → IsPrefix v.pieces told)
          (sym (ap (λ (a : Analysis _ _). a.viewer) c.self.view_is) ∙ w.in-None.is)
    ]
