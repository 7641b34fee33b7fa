use Rattle.std.proofs.Common.{ℕ, ◌<◌}
use Rattle.aff_map.specs.Refusals.{entry_at}
use Rattle.aff_map.specs.Mapped.{AreApart}
use Rattle.aff_map.proofs.overlap.first_earlier.Given as goal

abbrev pub invariant-loop-i : goal.invariant-loop-i
invariant-loop-i l = (k : ℕ) → k < l.i → AreApart (entry_at l.entries k) (entry_at l.entries l.later)
