use Rattle.std.proofs.Common.{◌≡◌, ◌++◌, ◌*◌, take}
use Rattle.aff_hash.specs.Chosen.{chosen_sums}
use Rattle.aff_hash.proofs.chosen.push_eights.Given as goal

abbrev pub invariant-groups : goal.invariant-groups
invariant-groups l = l.sums.items ≡ l.fn.sums.items ++ chosen_sums l.bytes (take (8 * l.i) l.chosen)
