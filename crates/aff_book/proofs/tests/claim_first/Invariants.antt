use Rattle.std.proofs.Common.{◌≡◌, ◌<◌}
use Rattle.aff_book.proofs.tests.claim_first.Given as goal

-- the pass is of the table, and its number is a worker's
abbrev pub invariant-loop : goal.invariant-loop
invariant-loop l = (l.pass.claims ≡ l.claims) × (l.pass.view.number < l.claims.table.workers)
