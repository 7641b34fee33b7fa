use Rattle.std.proofs.Common.{◌≡◌, ◌≢◌, ℕ, ◌<◌, map, get_or}
use Rattle.std.specs.Arc.{arc_value}
use Rattle.aff_analyst.specs.Seen.{extents_of}
use Rattle.aff_analyst.proofs.seen.first_of.Given as goal

abbrev pub invariant-loop-number : goal.invariant-loop-number
invariant-loop-number g l = (k : ℕ) → k < l.number → get_or (extents_of (map arc_value l.pieces)) k 0 ≢ l.extent
