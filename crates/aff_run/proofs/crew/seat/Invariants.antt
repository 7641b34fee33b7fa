use Rattle.std.proofs.Common.{◌≡◌, ◌+◌, ◌≤◌, ◌<◌, ℕ, length, vec_capacity, vec_len}
use Rattle.std.specs.Prelude.{All}
use Rattle.aff_model.specs.Plan.{Planned}
use Rattle.aff_claim.specs.Values.{Claiming}
use Rattle.aff_snapshot.specs.Lists.{ListName}
use Rattle.aff_run.specs.Sessions.{IsFresh}
use Rattle.aff_run.specs.Tasks.{CanRun, devices_of, examinations_of, sessions_of}
use Rattle.aff_run.proofs.crew.seat.Given as goal

abbrev pub invariant-loop-session : goal.invariant-loop-session
invariant-loop-session g l =
    (vec_len l.tasks ≡ vec_len l.initial.tasks + length l.yielded) × (vec_capacity l.tasks ≡ vec_capacity l.initial.tasks)
    × (length l.yielded + l.session-iterator.rest.len ≡ l.initial.session-iterator.rest.len) × (l.number ≡ length l.yielded + 1)
    × (devices_of l.tasks.items ≡ devices_of l.initial.tasks.items) × (sessions_of l.tasks.items ≡ l.yielded)
    × ((list : ListName) (claims : Claiming) (workers : ℕ) (plan : Planned)
    → All (CanRun list claims workers g.C.Case.content plan (λ d. (goal.Device-dyn g (d.vtable, d.value)).device_content d.value) (λ d. (goal.Device-dyn g (d.vtable, d.value)).device_block d.value) (λ d. (goal.Device-dyn g (d.vtable, d.value)).device_size d.value)) l.initial.tasks.items
    → All (λ s. IsFresh plan claims list s) (sessions_of l.tasks.items)
    → All (CanRun list claims workers g.C.Case.content plan (λ d. (goal.Device-dyn g (d.vtable, d.value)).device_content d.value) (λ d. (goal.Device-dyn g (d.vtable, d.value)).device_block d.value) (λ d. (goal.Device-dyn g (d.vtable, d.value)).device_size d.value)) l.tasks.items)
    × (examinations_of l.tasks.items ≡ examinations_of l.initial.tasks.items)
