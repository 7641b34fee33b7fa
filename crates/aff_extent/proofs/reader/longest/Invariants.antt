use Rattle.std.proofs.Common.{ℕ, ◌<◌, ◌≤◌, get_or}
use Rattle.aff_model.specs.declared.extent.Extent.{Extent}
use Rattle.aff_model.specs.declared.limits.TheConstants.{MAX_EXTENT}
use Rattle.aff_extent.proofs.reader.longest.Given as goal

abbrev pub invariant-loop-extent : goal.invariant-loop-extent
invariant-loop-extent l = record {
  most : (k : ℕ) (d : Extent) → k < l.extent-index → (get_or l.extents k d).len ≤ l.most;
  short : l.most ≤ MAX_EXTENT;
}
