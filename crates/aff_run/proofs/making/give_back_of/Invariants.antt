use Rattle.std.proofs.Common.{◌≡◌, ◌+◌, length, vec_capacity, vec_len}
use Rattle.aff_run.proofs.making.give_back_of.Given as goal

abbrev pub invariant-loop-follower : goal.invariant-loop-follower
invariant-loop-follower g l =
    (vec_len l.peeks ≡ vec_len l.initial.peeks + length l.yielded) × (vec_capacity l.peeks ≡ vec_capacity l.initial.peeks)
    × (length l.yielded + l.follower-iterator.rest.len ≡ l.initial.follower-iterator.rest.len)
