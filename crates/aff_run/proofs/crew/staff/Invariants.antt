use Rattle.std.proofs.Common.{◌≡◌, ◌+◌, ◌≤◌, ◌<◌, [], ℕ, length, vec_capacity, vec_len}
use Rattle.std.specs.Prelude.{All}
use Rattle.aff_model.specs.Plan.{Planned}
use Rattle.aff_claim.specs.Values.{Claiming}
use Rattle.aff_snapshot.specs.Lists.{ListName}
use Rattle.aff_run.specs.Devices.{Fits}
use Rattle.aff_run.specs.Tasks.{CanRun, devices_of, examinations_of, sessions_of}
use Rattle.aff_run.proofs.crew.staff.Given as goal

abbrev pub invariant-loop-device : goal.invariant-loop-device
invariant-loop-device g l =
    (vec_len l.tasks ≡ length l.yielded) × (length l.yielded + l.device-iterator.rest.len ≤ vec_capacity l.tasks) × (devices_of l.tasks.items ≡ l.yielded)
    × (l.kits.rest.len ≡ l.device-iterator.rest.len)
    × ((claims : Claiming) (workers : ℕ) → All (λ k. (k.pass.claims ≡ claims) × (k.pass.view.number < workers)) l.initial.kits.rest.items
    → All (λ k. (k.pass.claims ≡ claims) × (k.pass.view.number < workers)) l.kits.rest.items)
    × ((list : ListName) (claims : Claiming) (workers : ℕ) (plan : Planned) → All (λ k. (k.pass.claims ≡ claims) × (k.pass.view.number < workers)) l.initial.kits.rest.items
    → All (λ d. Fits g.C.Case.content plan (λ d. (goal.Device-dyn g (d.vtable, d.value)).device_content d.value) (λ d. (goal.Device-dyn g (d.vtable, d.value)).device_block d.value) (λ d. (goal.Device-dyn g (d.vtable, d.value)).device_size d.value) d) (devices_of l.tasks.items)
    → All (CanRun list claims workers g.C.Case.content plan (λ d. (goal.Device-dyn g (d.vtable, d.value)).device_content d.value) (λ d. (goal.Device-dyn g (d.vtable, d.value)).device_block d.value) (λ d. (goal.Device-dyn g (d.vtable, d.value)).device_size d.value)) l.tasks.items)
    × (sessions_of l.tasks.items ≡ []) × (vec_capacity l.tasks ≡ vec_capacity l.initial.tasks) × (examinations_of l.tasks.items ≡ [])
