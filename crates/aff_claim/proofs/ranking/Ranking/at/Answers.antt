use Rattle.std.proofs.Common.{◌<◌, length, get_or, sym, subst, ◌∙◌}
use Rattle.std.proofs.lemmas.Grind.{get_or_default_zero}
use Rattle.aff_claim.proofs.Urgency.{planned_at}
use Rattle.aff_claim.proofs.ranking.Ranking.at.Goals as goal

pub returns-clause-planned : goal.returns-clause-planned
returns-clause-planned c =
    let r = c.self.inside in
    let within : c.args.place < length r.falling.items = subst (λ v. c.args.place < length v.falling) (sym c.self.view_is) c.requires in
    let low = planned_at record { priorities = r.priorities.items; falling = r.falling.items } c.self.invariant c.args.place within in
    let is = c.index.ensures ∙ get_or_default_zero r.falling.items c.args.place c.index.result.now within in
    subst (λ x. x < length c.args.self.now.priorities) (sym is) (subst (λ v. get_or r.falling.items c.args.place 0 < length v.priorities) c.self.view_is low)
