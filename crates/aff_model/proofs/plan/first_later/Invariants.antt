use Rattle.std.proofs.Common.{◌-◌, ◌<◌, ◌≤◌, length, take, AllPairs}
use Rattle.aff_model.specs.Plan.{AreApart}
use Rattle.aff_model.proofs.plan.first_later.Given as goal

abbrev pub invariant-loop-high : goal.invariant-loop-high
invariant-loop-high l = record {
  order : l.low < l.high;
  inside : l.high ≤ length l.extents;
  apart : AllPairs AreApart (take l.low l.extents);
  not_apart : ¬ (AllPairs AreApart (take l.high l.extents));
}

abbrev pub decreases-loop-high : goal.decreases-loop-high
decreases-loop-high l = l.high - l.low
