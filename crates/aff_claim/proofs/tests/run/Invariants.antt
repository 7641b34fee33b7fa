use Rattle.std.proofs.Common.{◌≡◌}
use Rattle.aff_claim.proofs.tests.run.Given as goal

abbrev pub invariant-loop : goal.invariant-loop
invariant-loop l = (l.runner.pass.claims ≡ l.initial.runner.pass.claims) × (l.runner.pass.view.number ≡ l.initial.runner.pass.view.number)
