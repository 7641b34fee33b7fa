use Rattle.std.proofs.Common.{◌≡◌, drop}
use Rattle.std.specs.Ordering.{nat_cmp}
use Rattle.std.specs.Cmp.Lexicographic.{slice_cmp}
use Rattle.std.specs.FinMap.{find}
use Rattle.aff_outside.proofs.segment.listed_len.Given as goal

abbrev pub invariant-loop-segment : goal.invariant-loop-segment
invariant-loop-segment l = find (slice_cmp nat_cmp) l.name l.segments ≡ find (slice_cmp nat_cmp) l.name (drop l.segment-index l.segments)
