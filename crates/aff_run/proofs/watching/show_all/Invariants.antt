use Rattle.std.proofs.Common.{◌≡◌, ℕ, ◌<◌, ◌≤◌, get_or, map, vec_len}
use Rattle.std.specs.Arc.{arc_value}
use Rattle.aff_run.specs.Examinations.{HasBeenShown}
use Rattle.aff_run.proofs.watching.show_all.Given as goal

abbrev pub invariant-loop-index : goal.invariant-loop-index
invariant-loop-index g l = record {
  count : vec_len l.examinations ≡ vec_len l.initial.examinations;
  done : (k : ℕ) (d : _) → k < l.index → HasBeenShown g.F.Receipt.Telling.receipt_tells g.F.Receipt.Telling.told g.F.Peek.Peek.peek_faults (λ e. (goal.Examiner-dyn g (e.vtable, e.value)).rule e.value) (λ e. (goal.Examiner-dyn g (e.vtable, e.value)).text e.value) (λ e. (goal.Examiner-dyn g (e.vtable, e.value)).state e.value) (map arc_value l.pieces) (get_or l.initial.examinations.items k d) (get_or l.examinations.items k d);
  rest : (k : ℕ) (d : _) → l.index ≤ k → get_or l.examinations.items k d ≡ get_or l.initial.examinations.items k d;
}
