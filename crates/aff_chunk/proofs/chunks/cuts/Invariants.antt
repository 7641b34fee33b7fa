use Rattle.std.proofs.Common.{◌≡◌, ℕ, ◌<◌, length, get_or}
use Rattle.aff_model.specs.declared.extent.Extent.{Extent}
use Rattle.aff_chunk.specs.declared.kind.Cut.{Cut}
use Rattle.aff_chunk.specs.Cut.{IsCutOf}
use Rattle.aff_chunk.proofs.chunks.cuts.Given as goal

abbrev pub invariant-loop-j : goal.invariant-loop-j
invariant-loop-j l = record {
  count : length l.cuts.items ≡ l.j;
  each : (e : Extent) (j : ℕ) (d : Cut) → e.len ≡ length l.bytes → j < length l.cuts.items → IsCutOf e l.bytes l.bad j (get_or l.cuts.items j d);
}
