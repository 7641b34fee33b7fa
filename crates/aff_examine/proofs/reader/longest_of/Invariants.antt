use Rattle.std.proofs.Common.{◌≤◌, take}
use Rattle.std.specs.Prelude.{All}
use Rattle.aff_model.specs.declared.limits.TheConstants.{MAX_EXTENT}
use Rattle.aff_examine.proofs.reader.longest_of.Given as goal

abbrev pub invariant-loop-extent : goal.invariant-loop-extent
invariant-loop-extent l = record {
  longest : All (λ e. e.len ≤ l.longest) (take l.extent-index l.extents);
  short : l.longest ≤ MAX_EXTENT;
}
