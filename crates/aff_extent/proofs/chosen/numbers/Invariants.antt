use Rattle.std.proofs.Common.{◌≡◌, take}
use Rattle.aff_extent.specs.Drafts.{stored_from}
use Rattle.aff_extent.proofs.chosen.numbers.Given as goal

abbrev pub invariant-loop-number : goal.invariant-loop-number
invariant-loop-number l = l.numbers.items ≡ stored_from 0 (take l.number l.cuts)
