use Rattle.std.proofs.Common.{◌≡◌, replicate}
use Rattle.aff_order.proofs.order.copies.Given as goal

abbrev pub invariant-loop : goal.invariant-loop
invariant-loop l = l.orders.items ≡ replicate l.counter l.order
