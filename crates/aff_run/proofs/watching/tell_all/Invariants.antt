use Rattle.std.proofs.Common.{◌≡◌, ℕ, ◌<◌, ◌≤◌, get_or, vec_len}
use Rattle.aff_run.specs.Examinations.{HasBeenTold}
use Rattle.aff_run.proofs.watching.tell_all.Given as goal

abbrev pub invariant-loop-index : goal.invariant-loop-index
invariant-loop-index g l = record {
  same : l.book ≡ l.initial.book;
  count : vec_len l.examinations ≡ vec_len l.initial.examinations;
  done : (k : ℕ) (d : _) → k < l.index → HasBeenTold l.initial.book.pieces (get_or l.initial.examinations.items k d) (get_or l.examinations.items k d);
  rest : (k : ℕ) (d : _) → l.index ≤ k → get_or l.examinations.items k d ≡ get_or l.initial.examinations.items k d;
}
