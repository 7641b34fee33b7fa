use Rattle.std.proofs.Common.{length, take}
use Rattle.aff_core.specs.Steps.{IsRun, start}
use Rattle.aff_core.proofs.machine.run.Given as goal

abbrev pub invariant-loop-place : goal.invariant-loop-place
invariant-loop-place l = record {
  can_next : (goal.iterator-loop-place).can_next l.place-iterator;
  is_finite : (goal.iterator-loop-place).is_finite l.place-iterator;
  run : IsRun (start l.plan l.passes l.sessions) (take (length l.yielded) l.fn.events.items) l.state;
}
