use Rattle.std.proofs.Common.{◌≡◌, ◌+◌, ◌++◌, length, map, vec_capacity, vec_len}
use Rattle.aff_run.specs.Sessions.{first_fault}
use Rattle.aff_run.proofs.answering.part.Given as goal

abbrev pub invariant-loop-session : goal.invariant-loop-session
invariant-loop-session g l = record {
  answers_len : vec_len l.answers ≡ length l.yielded;
  answers_room : vec_capacity l.answers ≡ vec_capacity l.initial.answers;
  peeks_len : vec_len l.peeks ≡ vec_len l.initial.peeks + length l.yielded;
  peeks_room : vec_capacity l.peeks ≡ vec_capacity l.initial.peeks;
  left : length l.yielded + l.session-iterator.rest.len ≡ l.initial.session-iterator.rest.len;
  answers : map (λ a. a.items) l.answers.items ≡ map (λ s. s.answers) l.yielded;
  peeks : l.peeks.items ≡ l.initial.peeks.items ++ map (λ s. s.peek) l.yielded;
  fault : l.first ≡ first_fault l.yielded;
}
