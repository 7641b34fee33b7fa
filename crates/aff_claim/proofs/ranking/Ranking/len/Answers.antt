use Rattle.std.proofs.Common.{rules, ◌≡◌, length, ap, ◌∙◌}
use Rattle.aff_claim.proofs.Urgency.{as_many}
use Rattle.aff_claim.proofs.ranking.Ranking.len.Goals as goal

pub returns-clause-priorities : goal.returns-clause-priorities
returns-clause-priorities c =
    let many = as_many record { priorities = c.self.inside.priorities.items; falling = c.self.inside.falling.items } c.self.invariant in
    let count : c.len.result ≡ length c.self.inside.falling.items = search rules in
    count ∙ (many ∙ ap (λ v. length v.priorities) c.self.view_is)
