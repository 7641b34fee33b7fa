use Rattle.std.proofs.Common.{◌≡◌, ◌<◌, All}
use Rattle.aff_claim.proofs.tests.runners.Given as goal

abbrev pub invariant-loop : goal.invariant-loop
invariant-loop l = (l.seat.table ≡ l.claims.table) × (l.seat.view.made ≡ l.counter) × All (λ r. (r.pass.claims ≡ l.claims) × (r.pass.view.number < l.claims.table.workers)) l.runners.items
