use Rattle.std.proofs.Common.{◌≤◌}
use Rattle.aff_bevvy.proofs.Sorted.{DoRise}
use Rattle.aff_bevvy.proofs.listed.are_sorted.Given as goal

abbrev pub invariant-loop-place : goal.invariant-loop-place
invariant-loop-place l = DoRise l.segments l.place
