use Rattle.std.proofs.Common.{◌-◌, ◌<◌, ◌≤◌, length, take, AllPairs}
use Rattle.aff_map.specs.Mapped.{AreApart}
use Rattle.aff_map.proofs.overlap.first_later.Given as goal

abbrev pub invariant-loop-high : goal.invariant-loop-high
invariant-loop-high l = record {
  order : l.low < l.high;
  inside : l.high ≤ length l.entries;
  apart : AllPairs AreApart (take l.low l.entries);
  not_apart : ¬ (AllPairs AreApart (take l.high l.entries));
}

abbrev pub decreases-loop-high : goal.decreases-loop-high
decreases-loop-high l = l.high - l.low
