use Rattle.std.proofs.Common.{◌<◌, All, length}
use Rattle.aff_model.specs.Plan.{chunk_count}
use Rattle.aff_bench.proofs.stored.Given as goal

abbrev pub invariant-loop-number : goal.invariant-loop-number
invariant-loop-number l = All (λ j. j < chunk_count (length l.bytes)) l.numbers.items
