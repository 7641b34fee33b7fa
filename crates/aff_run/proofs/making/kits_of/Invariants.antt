use Rattle.std.proofs.Common.{◌≡◌, ◌+◌, ◌<◌, length, vec_capacity, vec_len}
use Rattle.std.specs.Prelude.{All}
use Rattle.aff_run.proofs.making.kits_of.Given as goal

abbrev pub invariant-loop-order : goal.invariant-loop-order
invariant-loop-order l =
    (l.seat.table ≡ l.initial.seat.table) × (l.seat.view.out ≡ l.initial.seat.view.out) × (l.seat.view.made ≡ length l.yielded)
    × (vec_len l.kits ≡ length l.yielded) × (vec_capacity l.kits ≡ length l.yielded + l.order-iterator.rest.len)
    × All (λ k. (k.pass.claims ≡ l.claims) × (k.pass.view.number < length l.yielded)) l.kits.items
