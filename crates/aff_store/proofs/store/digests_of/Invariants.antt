use Rattle.std.proofs.Common.{◌≡◌, take, map}
use Rattle.aff_store.proofs.store.digests_of.Given as goal

abbrev pub invariant-loop-sum : goal.invariant-loop-sum
invariant-loop-sum l = l.digests.items ≡ map (λ s. s.sha256) (take l.sum-index l.sums)
