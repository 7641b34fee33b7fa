use Rattle.std.proofs.Common.{◌≡◌, ℕ}
use Rattle.std.specs.Prelude.{Contains}
use Rattle.aff_claim.specs.declared.word.Word.{Word}
use Rattle.aff_worker.proofs.job.wait_for.Given as goal

abbrev pub invariant-loop : goal.invariant-loop
invariant-loop g l =
    (goal.iterator-loop g).can_next l.iterator' × (goal.iterator-loop g).is_finite l.iterator'
    × (l.pass.claims ≡ l.initial.pass.claims) × (l.pass.view.number ≡ l.initial.pass.view.number) × (l.pass.view.mine ≡ l.initial.pass.view.mine)
    × ((e : ℕ) → Contains l.initial.pass.view.known e → Contains l.pass.view.known e)
    × ((e : ℕ) (word : Word) → Contains l.initial.pass.view.found (e, word) → Contains l.pass.view.found (e, word))
