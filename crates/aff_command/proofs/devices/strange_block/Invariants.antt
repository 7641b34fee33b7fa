use Rattle.aff_model.specs.Content.{IsBlock}
use Rattle.aff_command.specs.Devices.{shown}
use Rattle.aff_command.proofs.Shown.{Before}
use Rattle.aff_command.proofs.devices.strange_block.Given as goal

abbrev pub invariant-loop-number : goal.invariant-loop-number
invariant-loop-number g l = Before (λ d. shown ((g.dyn-1.0.entry d.vtable).1.device_content d.value) ((g.dyn-1.0.entry d.vtable).1.device_block d.value) ((g.dyn-1.0.entry d.vtable).1.device_size d.value) ((g.dyn-1.0.entry d.vtable).1.device_faults d.value)) (λ e. IsBlock e.block) l.devices l.number
