use Rattle.std.proofs.Common.{◌≡◌, ◌+◌, length, vec_capacity, vec_len}
use Rattle.aff_run.proofs.making.give_back.Given as goal

abbrev pub invariant-loop-session : goal.invariant-loop-session
invariant-loop-session g l =
    (vec_len l.peeks ≡ vec_len l.initial.peeks + length l.yielded) × (vec_capacity l.peeks ≡ vec_capacity l.initial.peeks)
    × (length l.yielded + l.session-iterator.rest.len ≡ l.initial.session-iterator.rest.len)
