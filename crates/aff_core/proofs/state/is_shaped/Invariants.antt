use Rattle.std.proofs.Common.{ℕ, ◌+◌, ◌/◌, ◌<◌, get_or}
use Rattle.aff_core.proofs.state.is_shaped.Given as goal

abbrev pub invariant-loop-k : goal.invariant-loop-k
invariant-loop-k l = record {
  rising : (i : ℕ) → i + 1 < l.k → get_or l.bad.items i 0 < get_or l.bad.items (i + 1) 0;
  inside : (i : ℕ) → i < l.k → get_or l.bad.items i 0 < l.extent.len / 512;
}
