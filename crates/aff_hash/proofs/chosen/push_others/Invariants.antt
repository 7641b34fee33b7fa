use Rattle.std.proofs.Common.{◌≡◌, ◌++◌, take}
use Rattle.aff_hash.specs.Chosen.{chosen_sums}
use Rattle.aff_hash.proofs.chosen.push_others.Given as goal

abbrev pub invariant-others : goal.invariant-others
invariant-others l = l.sums.items ≡ l.fn.sums.items ++ chosen_sums l.bytes (take l.i l.chosen)
