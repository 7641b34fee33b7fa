use Rattle.std.proofs.Common.{◌≡◌, rules}
use Rattle.std.proofs.lemmas.Fn.{always_returns_same}
use Rattle.aff_plan.specs.Order.{rank_of}
use Rattle.aff_plan.proofs.Ranks.{order_of}
use Rattle.aff_plan.proofs.sorting.sorted.Goals as goal

pub returns : goal.returns
returns c =
    order_of c.args.extents.now _ _ c.in_ok-order.ensures c.sort_unstable_by_key.ensures.permutation
    (c.sort_unstable_by_key.ensures.sorted (rank_of c.args.extents.now) (always_returns_same _ (λ a r. r ≡ rank_of c.args.extents.now a.0.now) _ (λ a r q k. search rules)))
