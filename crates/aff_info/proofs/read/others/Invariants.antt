use Rattle.std.proofs.Common.{◌≡◌, ◌++◌, ◌-◌}
use Rattle.aff_info.specs.Reading.{others}
use Rattle.aff_info.proofs.read.others.Given as goal

abbrev pub invariant-loop-place : goal.invariant-loop-place
invariant-loop-place l = l.places.items ++ others l.firsts l.place (l.count - l.place) ≡ others l.firsts 0 l.count
