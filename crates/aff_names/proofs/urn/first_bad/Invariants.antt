use Rattle.std.proofs.Common.{◌≡◌, ℕ, ◌<◌, ◌≤◌, true}
use Rattle.std.specs.Prelude.{slice_get}
use Rattle.aff_names.specs.Urn.{may_be_at}
use Rattle.aff_names.proofs.urn.first_bad.Given as goal

abbrev pub invariant-loop-at : goal.invariant-loop-at
invariant-loop-at l = (k : ℕ) → 7 ≤ k → k < l.at → may_be_at k (slice_get l.bytes k) ≡ true
