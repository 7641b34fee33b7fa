use Rattle.std.proofs.Common.{◌≡◌, map, take, vec_capacity, vec_len}
use Rattle.aff_run.proofs.watching.findings_of.Given as goal

abbrev pub invariant-loop-examiner : goal.invariant-loop-examiner
invariant-loop-examiner g l = record {
  len : vec_len l.findings ≡ l.examiner-index;
  room : vec_capacity l.findings ≡ vec_capacity l.initial.findings;
  found : map (λ f. f.items) l.findings.items ≡ map (λ e. (goal.Examiner-dyn g (e.vtable, e.value)).text e.value ((goal.Examiner-dyn g (e.vtable, e.value)).state e.value)) (take l.examiner-index l.examiners);
}
