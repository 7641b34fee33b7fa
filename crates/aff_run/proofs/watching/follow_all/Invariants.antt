use Rattle.std.proofs.Common.{◌≡◌, ℕ, ◌<◌, ◌≤◌, get_or, vec_len}
use Rattle.aff_examine.specs.Folds.{HasSameRule}
use Rattle.aff_run.proofs.watching.follow_all.Given as goal

abbrev pub invariant-loop-index : goal.invariant-loop-index
invariant-loop-index g l = record {
  count : vec_len l.examinations ≡ vec_len l.initial.examinations;
  done : (k : ℕ) (d : _) → k < l.index → HasSameRule (λ e. (goal.Examiner-dyn g (e.vtable, e.value)).rule e.value) (λ e. (goal.Examiner-dyn g (e.vtable, e.value)).text e.value) (get_or l.initial.examinations.items k d).examiner (get_or l.examinations.items k d).examiner;
  rest : (k : ℕ) (d : _) → l.index ≤ k → get_or l.examinations.items k d ≡ get_or l.initial.examinations.items k d;
}
