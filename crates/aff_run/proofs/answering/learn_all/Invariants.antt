use Rattle.std.proofs.Common.{◌≡◌, ℕ, ◌<◌, ◌≤◌, get_or}
use Rattle.aff_run.specs.Sessions.{HasLearned}
use Rattle.aff_run.proofs.answering.learn_all.Given as goal

abbrev pub invariant-loop-session : goal.invariant-loop-session
invariant-loop-session g l = record {
  book : l.book ≡ l.initial.book;
  done : (k : ℕ) (d : _) → k < l.session-index → HasLearned l.initial.book.pieces (get_or l.initial.sessions k d) (get_or l.sessions k d);
  rest : (k : ℕ) (d : _) → l.session-index ≤ k → get_or l.sessions k d ≡ get_or l.initial.sessions k d;
}
