use Rattle.std.proofs.Common.{◌≡◌, All, length}
use Rattle.aff_outside.proofs.file_folder.file_peeks.Given as goal

abbrev pub invariant-loop : goal.invariant-loop
invariant-loop l = (length l.peeks.items ≡ l.counter) × All (λ peek. peek ≡ 0) l.peeks.items
