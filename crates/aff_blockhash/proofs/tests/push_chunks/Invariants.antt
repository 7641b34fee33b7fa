use Rattle.std.proofs.Common.{◌+◌, ◌≤◌}
use Rattle.aff_blockhash.proofs.tests.push_chunks.Given as goal

abbrev pub invariant-loop-number : goal.invariant-loop-number
invariant-loop-number l = l.hashes.bevvy ≤ l.initial.hashes.bevvy + l.number
