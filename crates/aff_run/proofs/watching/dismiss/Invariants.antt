use Rattle.std.proofs.Common.{◌≡◌, ◌+◌, ◌++◌, length, map, vec_capacity, vec_len}
use Rattle.aff_run.specs.Examinations.{first_fault}
use Rattle.aff_run.proofs.watching.dismiss.Given as goal

abbrev pub invariant-loop-examination : goal.invariant-loop-examination
invariant-loop-examination g l = record {
  examiners_len : vec_len l.examiners ≡ length l.yielded;
  examiners_room : vec_capacity l.examiners ≡ vec_capacity l.initial.examiners;
  peeks_len : vec_len l.peeks ≡ vec_len l.initial.peeks + length l.yielded;
  peeks_room : vec_capacity l.peeks ≡ vec_capacity l.initial.peeks;
  left : length l.yielded + l.examination-iterator.rest.len ≡ l.initial.examination-iterator.rest.len;
  examiners : l.examiners.items ≡ map (λ x. x.examiner) l.yielded;
  peeks : l.peeks.items ≡ l.initial.peeks.items ++ map (λ x. x.follower.peek) l.yielded;
  fault : l.first ≡ first_fault l.yielded;
}
