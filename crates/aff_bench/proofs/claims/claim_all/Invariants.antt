use Rattle.std.proofs.Common.{◌≡◌}
use Rattle.aff_bench.proofs.claims.claim_all.Given as goal

abbrev pub invariant-loop-claimed : goal.invariant-loop-claimed
invariant-loop-claimed l = (l.pass.claims ≡ l.initial.pass.claims) × (l.pass.view.number ≡ l.initial.pass.view.number)
