use Rattle.std.proofs.Common.{◌≡◌, ◌++◌, ◌*◌, take}
use Rattle.aff_hash.specs.Chosen.{chosen_sums}
use Rattle.aff_hash.proofs.chosen.push_fours.Given as goal

abbrev pub invariant-groups : goal.invariant-groups
invariant-groups l = l.sums.items ≡ l.fn.sums.items ++ chosen_sums l.bytes (take (4 * l.i) l.chosen)
