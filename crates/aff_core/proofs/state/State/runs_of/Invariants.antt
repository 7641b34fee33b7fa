use Rattle.std.proofs.Common.{◌≡◌, ◌-◌, ◌≤◌}
use Rattle.aff_model.specs.Kinds.{AreGreatest, kinds_of, spread}
use Rattle.aff_core.proofs.state.State.runs_of.Given as goal

abbrev pub invariant-loop-done : goal.invariant-loop-done
invariant-loop-done l = record {
  inside : l.done ≤ l.len;
  kinds : spread l.runs.items ≡ kinds_of l.self.plan.extents l.self.history l.at l.done;
  greatest : AreGreatest l.runs.items;
}

abbrev pub decreases-loop-done : goal.decreases-loop-done
decreases-loop-done l = l.len - l.done
