use Rattle.std.proofs.Common.{◌≡◌, ap, sym, ◌∙◌}
use Rattle.aff_model.specs.Plan.{Planned}
use Rattle.aff_snapshot.specs.Lists.{Reached}
use Rattle.aff_snapshot.specs.Numbers.{plan_in}
use Rattle.aff_snapshot.proofs.Plans.{plan_back}
use Rattle.aff_snapshot.proofs.front.Front.again.Goals as goal

pub returns : goal.returns
returns c =
    let inside = c.self.inside in
    let here : plan_in inside.plan.numbers ≡ c.args.self.now.list.plan = ap (λ (r : Reached). r.list.plan) c.self.view_is in
    let there : plan_in c.of.result.numbers ≡ c.args.self.now.list.plan = ap plan_in c.of.ensures ∙ plan_back c.args.self.now.list.plan in
    ap (λ (p : Planned). record { list = record { book = c.again.result.book; plan = p }; names = c.again.result.log }) (there ∙ sym here)
    ∙ (ap (λ s. record { list = record { book = s.book; plan = plan_in inside.plan.numbers }; names = s.log }) c.again.ensures ∙ c.self.view_is)
