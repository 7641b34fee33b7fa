use Rattle.std.proofs.Common.{◌≡◌, ℕ, ◌<◌, ◌≤◌, take}
use Rattle.aff_model.specs.declared.limits.TheConstants.{MAX_EXTENTS, MAX_TOTAL}
use Rattle.aff_model.specs.Faults.{KeepsRules}
use Rattle.aff_model.specs.Plan.{bytes_in}
use Rattle.aff_model.proofs.plan.check_extents.Given as goal

abbrev pub invariant-loop-number : goal.invariant-loop-number
invariant-loop-number l = record {
  kept : (k : ℕ) → k < l.number → KeepsRules l.size l.block l.extents k;
  few : l.number ≤ MAX_EXTENTS;
  sum : l.total ≡ bytes_in (take l.number l.extents);
  small : l.total ≤ MAX_TOTAL;
}
