use Rattle.std.proofs.Common.{◌<◌, All}
use Rattle.aff_hash.proofs.tests.numbers.Given as goal

abbrev pub invariant-loop-i : goal.invariant-loop-i
invariant-loop-i l = All (λ number. number < 7) l.chosen.items
