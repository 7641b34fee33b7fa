use Rattle.std.proofs.Common.{◌≡◌, ◌+◌, ◌≤◌, ◌<◌, ℕ, length, map, vec_capacity, vec_len}
use Rattle.std.specs.Prelude.{All}
use Rattle.aff_model.specs.Plan.{Planned}
use Rattle.aff_claim.specs.Values.{Claiming}
use Rattle.aff_snapshot.specs.Lists.{ListName}
use Rattle.aff_run.specs.Examinations.{IsNew}
use Rattle.aff_run.specs.Tasks.{CanRun, devices_of, examinations_of, sessions_of}
use Rattle.aff_run.proofs.crew.post.Given as goal

abbrev pub invariant-loop-examiner : goal.invariant-loop-examiner
invariant-loop-examiner g l = record {
  count : vec_len l.tasks ≡ vec_len l.initial.tasks + length l.yielded;
  room : vec_capacity l.tasks ≡ vec_capacity l.initial.tasks;
  left : length l.yielded + l.examiner-iterator.rest.len ≡ l.initial.examiner-iterator.rest.len;
  followers : l.followers.rest.len ≡ l.examiner-iterator.rest.len;
  devices : devices_of l.tasks.items ≡ devices_of l.initial.tasks.items;
  sessions : sessions_of l.tasks.items ≡ sessions_of l.initial.tasks.items;
  examiners : map (λ x. x.examiner) (examinations_of l.tasks.items) ≡ l.yielded;
  new : (list : ListName) (plan : Planned) → All (λ f. IsNew plan list f) l.initial.followers.rest.items → All (λ f. IsNew plan list f) l.followers.rest.items;
  tasks : (list : ListName) (claims : Claiming) (workers : ℕ) (plan : Planned)
      → All (CanRun list claims workers g.C.Case.content plan (λ d. (goal.Device-dyn g (d.vtable, d.value)).device_content d.value) (λ d. (goal.Device-dyn g (d.vtable, d.value)).device_block d.value) (λ d. (goal.Device-dyn g (d.vtable, d.value)).device_size d.value)) l.initial.tasks.items
      → All (λ f. IsNew plan list f) l.initial.followers.rest.items
      → All (CanRun list claims workers g.C.Case.content plan (λ d. (goal.Device-dyn g (d.vtable, d.value)).device_content d.value) (λ d. (goal.Device-dyn g (d.vtable, d.value)).device_block d.value) (λ d. (goal.Device-dyn g (d.vtable, d.value)).device_size d.value)) l.tasks.items;
}
