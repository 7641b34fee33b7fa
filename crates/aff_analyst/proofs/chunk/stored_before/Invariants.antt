use Rattle.std.proofs.Common.{◌≡◌, ◌≤◌}
use Rattle.aff_analyst.specs.Bytes.{stored_before}
use Rattle.aff_analyst.proofs.chunk.stored_before.Given as goal

abbrev pub invariant-loop-k : goal.invariant-loop-k
invariant-loop-k l = record {
  counted : l.stored ≡ stored_before l.places l.k;
  few : l.stored ≤ l.k;
}
