use Rattle.std.proofs.Common.{◌≡◌, ℕ, ◌<◌, ◌≤◌, get_or, map}
use Rattle.std.specs.Arc.{arc_value}
use Rattle.aff_run.specs.Sessions.{HasClosed}
use Rattle.aff_run.proofs.answering.answer_late.Given as goal

abbrev pub invariant-loop-session : goal.invariant-loop-session
invariant-loop-session g l = record {
  done : (k : ℕ) (d : _) → k < l.session-index → HasClosed g.F.Receipt.Telling.receipt_tells g.F.Receipt.Telling.told g.F.Peek.Peek.peek_faults (map arc_value l.pieces) (get_or l.initial.sessions k d) (get_or l.sessions k d);
  rest : (k : ℕ) (d : _) → l.session-index ≤ k → get_or l.sessions k d ≡ get_or l.initial.sessions k d;
}
