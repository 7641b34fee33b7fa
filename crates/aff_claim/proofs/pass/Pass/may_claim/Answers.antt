use Rattle.std.proofs.Common.{◌<◌, ◌≤◌, ℕ, length, subst, ap, ◌∙◌, Contains, slice_index}
use Rattle.aff_claim.specs.Ranking.{Ranked, IsRanking}
use Rattle.aff_claim.specs.Values.{Passing}
use Rattle.aff_claim.proofs.Urgency.{urgent_known}
use Rattle.aff_claim.proofs.pass.Pass.may_claim.Goals as goal

pub returns-then-not-knows-clause-urgent : goal.returns-then-not-knows-clause-urgent
returns-then-not-knows-clause-urgent c leads =
    let now = c.args.self.now in
    let front = c.self.inside.front in
    let ranking = c.deref.ensures ∙ ap (λ p. p.claims.ranking) c.self.view_is in
    let Behind : Passing → Type 0 = λ p. (i : ℕ) → i < front → Contains p.view.known (slice_index p.claims.ranking.falling i) in
    let Least : Ranked → Type 0 = λ r. front < length r.falling → slice_index r.priorities (slice_index r.falling front) ≤ slice_index r.priorities c.args.extent in
    urgent_known now.claims.ranking (subst IsRanking ranking c.leads.ensures.ranking) now.view.known front c.args.extent (subst Behind c.self.view_is c.self.invariant.behind) (subst Least ranking (c.leads.ensures.leads leads))
