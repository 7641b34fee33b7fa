use Rattle.std.proofs.Common.{◌≡◌, All, length}
use Rattle.aff_memory.specs.Counted.{uncalled}
use Rattle.aff_memory.proofs.peek.peeks_of.Given as goal

abbrev pub invariant-loop : goal.invariant-loop
invariant-loop l = (length l.peeks.items ≡ l.counter) × All (λ peek. peek ≡ uncalled l.fail) l.peeks.items × All (λ peek. peek.faults ≡ 0) l.peeks.items
