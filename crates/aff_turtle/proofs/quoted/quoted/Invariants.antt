use Rattle.std.proofs.Common.{◌≡◌, ◌≤◌, ◌-◌, length, drop}
use Rattle.aff_turtle.specs.Quoted.{quoted}
use Rattle.aff_turtle.proofs.Quotes.{joined}
use Rattle.aff_turtle.proofs.quoted.quoted.Given as goal

abbrev pub invariant-loop-at : goal.invariant-loop-at
invariant-loop-at l = record {
  so_far : joined l.text.items l.at (quoted l.quote 0 (drop l.at l.chars)) ≡ quoted l.quote 0 l.chars;
  inside : l.at ≤ length l.chars;
}

abbrev pub decreases-loop-at : goal.decreases-loop-at
decreases-loop-at l = length l.chars - l.at
