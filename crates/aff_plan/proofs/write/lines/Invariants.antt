use Rattle.std.proofs.Common.{◌≡◌, take}
use Rattle.aff_spec.specs.PlanText.{plan_text}
use Rattle.aff_plan.proofs.write.lines.Given as goal

abbrev pub invariant-loop-extent : goal.invariant-loop-extent
invariant-loop-extent l = l.text.items ≡ plan_text (take l.extent-index l.extents)
