use Rattle.std.proofs.Common.{◌≤◌}
use Rattle.aff_session.specs.Looking.{HasLooked}
use Rattle.aff_session.proofs.looker.Looker.wait.Given as goal

abbrev pub invariant-loop : goal.invariant-loop
invariant-loop g l = record {
  looked : HasLooked l.initial.self l.self;
  later : g.F.Peek.Peek.peek_faults l.initial.self.peek ≤ g.F.Peek.Peek.peek_faults l.self.peek;
}
