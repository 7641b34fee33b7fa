use Rattle.std.proofs.Common.{ℕ, ◌<◌, subst, Contains, slice_index}
use Rattle.aff_claim.specs.Values.{Passing}
use Rattle.aff_claim.proofs.pass.Pass.front.Goals as goal

pub returns-clause-behind : goal.returns-clause-behind
returns-clause-behind c =
    let P : Passing → Type 0 = λ p. (i : ℕ) → i < c.self.inside.front → Contains p.view.known (slice_index p.claims.ranking.falling i) in
    subst P c.self.view_is c.self.invariant.behind
