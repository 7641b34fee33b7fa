use Rattle.std.proofs.Common.{◌≡◌, ◌+◌, ◌≤◌, length, vec_capacity, vec_len}
use Rattle.aff_run.specs.Tasks.{devices_of, examinations_of, sessions_of}
use Rattle.aff_run.proofs.crew.disband.Given as goal

abbrev pub invariant-loop-task : goal.invariant-loop-task
invariant-loop-task g l =
    (vec_len l.devices ≤ length l.yielded) × (length l.yielded + l.task-iterator.rest.len ≤ vec_capacity l.devices) × (l.devices.items ≡ devices_of l.yielded)
    × (vec_len l.sessions ≤ length l.yielded) × (length l.yielded + l.task-iterator.rest.len ≤ vec_capacity l.sessions) × (l.sessions.items ≡ sessions_of l.yielded)
    × (vec_len l.examinations ≤ length l.yielded) × (length l.yielded + l.task-iterator.rest.len ≤ vec_capacity l.examinations) × (l.examinations.items ≡ examinations_of l.yielded)
