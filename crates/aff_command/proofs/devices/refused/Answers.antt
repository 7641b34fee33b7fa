use Rattle.std.proofs.Common.{◌<◌, length, map, arith}
use Rattle.std.proofs.lemmas.List.{length-map}
use Rattle.aff_command.specs.Devices.{shown}
use Rattle.aff_command.proofs.Shown.{differs, fits, refused_differs}
use Rattle.aff_command.proofs.devices.refused.Goals as goal

pub returns-in-Some-other_device-clause-some : goal.returns-in-Some-other_device-clause-some
returns-in-Some-other_device-clause-some g c =
    let xs = c.args.devices.now in
    let count = length-map xs (λ d. shown ((g.dyn-1.0.entry d.vtable).1.device_content d.value) ((g.dyn-1.0.entry d.vtable).1.device_block d.value) ((g.dyn-1.0.entry d.vtable).1.device_size d.value) ((g.dyn-1.0.entry d.vtable).1.device_faults d.value)) in
    let some : 0 < length xs = grind (arith, c.is_empty.ensures, c.if-is_empty.false) in
    refused_differs (map (λ d. shown ((g.dyn-1.0.entry d.vtable).1.device_content d.value) ((g.dyn-1.0.entry d.vtable).1.device_block d.value) ((g.dyn-1.0.entry d.vtable).1.device_size d.value) ((g.dyn-1.0.entry d.vtable).1.device_faults d.value)) xs) (omega (arith, some, count)) (omega (arith, c.if-devices-gt-MAX_DEVICES.false, count)) c.in_default.ensures.none c.in_default-strange_size.ensures.none
    c.in-Some-other_device.number (differs (λ d. shown ((g.dyn-1.0.entry d.vtable).1.device_content d.value) ((g.dyn-1.0.entry d.vtable).1.device_block d.value) ((g.dyn-1.0.entry d.vtable).1.device_size d.value) ((g.dyn-1.0.entry d.vtable).1.device_faults d.value)) c.first_block.result c.first_size.result xs some c.first_block.ensures c.first_size.ensures c.in-Some-other_device.number c.in-Some-other_device.ensures.some)

pub returns-in-None-clause-none : goal.returns-in-None-clause-none
returns-in-None-clause-none g c =
    let xs = c.args.devices.now in
    let some : 0 < length xs = grind (arith, c.is_empty.ensures, c.if-is_empty.false) in
    fits (λ d. shown ((g.dyn-1.0.entry d.vtable).1.device_content d.value) ((g.dyn-1.0.entry d.vtable).1.device_block d.value) ((g.dyn-1.0.entry d.vtable).1.device_size d.value) ((g.dyn-1.0.entry d.vtable).1.device_faults d.value)) c.first_block.result c.first_size.result xs some (omega (arith, c.if-devices-gt-MAX_DEVICES.false)) c.first_block.ensures c.first_size.ensures
    c.in_default.ensures.none c.in_default-strange_size.ensures.none c.in-None.ensures.none
