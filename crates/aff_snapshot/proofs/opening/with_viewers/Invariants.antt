use Rattle.std.proofs.Common.{◌≡◌, ◌≤◌, All, length}
use Rattle.aff_snapshot.proofs.opening.with_viewers.Given as goal

abbrev pub invariant-loop-number : goal.invariant-loop-number
invariant-loop-number g l = (l.publisher ≡ l.initial.publisher) × All (λ v. v ≡ l.initial.publisher) l.viewers.items × (length l.viewers.items ≤ l.number)
