use Rattle.std.proofs.Common.{◌≡◌, length}
use Rattle.aff_bevvy.proofs.tests.append_chunks.Given as goal

abbrev pub invariant-loop-k : goal.invariant-loop-k
invariant-loop-k l = record {
  count : l.writer.count ≡ l.k;
  long : length l.chunk.items ≡ 32768;
}
