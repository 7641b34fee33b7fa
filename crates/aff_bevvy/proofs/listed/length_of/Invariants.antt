use Rattle.std.proofs.Common.{◌-◌, ◌≤◌, length}
use Rattle.aff_bevvy.specs.Segments.{AreSorted}
use Rattle.aff_bevvy.proofs.Sorted.{IsBetween}
use Rattle.aff_bevvy.proofs.listed.length_of.Given as goal

abbrev pub invariant-loop-low : goal.invariant-loop-low
invariant-loop-low l = record {
  inside : l.high ≤ length l.segments;
  between : AreSorted l.segments → IsBetween l.segments l.name l.low l.high;
}

abbrev pub decreases-loop-low : goal.decreases-loop-low
decreases-loop-low l = l.high - l.low
