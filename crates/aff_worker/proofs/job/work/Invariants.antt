use Rattle.std.proofs.Common.{◌≡◌, ◌≤◌, false}
use Rattle.aff_worker.proofs.Claims.{AreFound}
use Rattle.aff_worker.proofs.job.work.Given as goal

abbrev pub invariant-loop : goal.invariant-loop
invariant-loop g l =
    let old = goal.Device-dyn g (l.initial.worker.device.vtable, l.initial.worker.device.value) in
    let now = goal.Device-dyn g (l.worker.device.vtable, l.worker.device.value) in
    (goal.iterator-loop g).can_next l.iterator' × (goal.iterator-loop g).is_finite l.iterator'
    × (l.worker.pass.claims ≡ l.initial.worker.pass.claims) × (l.worker.pass.view.number ≡ l.initial.worker.pass.view.number)
    × (now.device_content l.worker.device.value ≡ old.device_content l.initial.worker.device.value)
    × (now.device_block l.worker.device.value ≡ old.device_block l.initial.worker.device.value)
    × (now.device_size l.worker.device.value ≡ old.device_size l.initial.worker.device.value)
    × (old.device_faults l.initial.worker.device.value ≤ now.device_faults l.worker.device.value)
    × (l.stopped ≡ false) × (l.memory ≡ false)
    × AreFound l.initial.worker.pass.view l.worker.pass.view
