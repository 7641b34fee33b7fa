use Rattle.std.proofs.Common.{◌≡◌, ℕ, ◌<◌, ◌≤◌, map}
use Rattle.std.specs.Prelude.{Contains}
use Rattle.aff_run.proofs.sweep.sweep.Given as goal

abbrev pub invariant-loop-number : goal.invariant-loop-number
invariant-loop-number g l =
    let first = goal.Device-dyn g l.initial.device.now in
    let device = goal.Device-dyn g l.device.now in
    record {
      published : (k : ℕ) → k < l.number → Contains (map (λ p. p.extent) l.book.pieces) k;
      content : device.device_content l.device.now.1 ≡ first.device_content l.initial.device.now.1;
      block : device.device_block l.device.now.1 ≡ first.device_block l.initial.device.now.1;
      size : device.device_size l.device.now.1 ≡ first.device_size l.initial.device.now.1;
      later : first.device_faults l.initial.device.now.1 ≤ device.device_faults l.device.now.1;
    }
