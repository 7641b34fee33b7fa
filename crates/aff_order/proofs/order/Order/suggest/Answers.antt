use Rattle.std.proofs.Common.{◌<◌, All, IfSome, length, subst, sym, ◌∙◌}
use Rattle.aff_order.specs.Order.{IsOrder}
use Rattle.aff_order.proofs.Numbers.{all_below, read_of_all}
use Rattle.aff_order.proofs.order.Order.suggest.Goals as goal

pub returns-clause-planned : goal.returns-clause-planned
returns-clause-planned c =
    let order = c.args.self.now in
    let given = c.deref.result.now in
    let is = c.deref.ensures.value ∙ c.self.view_is in
    let all = subst (λ xs. All (λ e. e < length order) xs) (sym is) (all_below order (subst IsOrder c.self.view_is c.self.invariant)) in
    subst (λ o. IfSome o (λ e. e < length order)) (sym c.copied.ensures) (read_of_all (λ e. e < length order) given c.args.turn c.get.result all c.get.ensures.lookup.3)
