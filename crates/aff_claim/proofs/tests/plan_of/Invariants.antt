use Rattle.std.proofs.Common.{◌≡◌, length}
use Rattle.aff_claim.proofs.tests.plan_of.Given as goal

abbrev pub invariant-loop-number : goal.invariant-loop-number
invariant-loop-number l = length l.extents.items ≡ l.number
