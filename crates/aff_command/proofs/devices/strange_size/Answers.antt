use Rattle.std.proofs.Common.{sym, subst, subst₂, arith}
use Rattle.aff_model.specs.Content.{IsBlock}
use Rattle.aff_command.specs.Devices.{IsDeviceSize, shown}
use Rattle.aff_command.proofs.Shown.{all_have, at_element, by_element, first_without, more}
use Rattle.aff_command.proofs.devices.strange_size.Goals as goal

pub is_device_size-requires : goal.is_device_size-requires
is_device_size-requires g c =
    let xs = c.args.devices.now in
    let n = c.loop-number.number in
    by_element xs n c.loop-number-test.true (λ d. subst IsBlock (sym (c.block_of.ensures d)) (at_element (λ d. shown ((g.dyn-1.0.entry d.vtable).1.device_content d.value) ((g.dyn-1.0.entry d.vtable).1.device_block d.value) ((g.dyn-1.0.entry d.vtable).1.device_size d.value) ((g.dyn-1.0.entry d.vtable).1.device_faults d.value)) (λ e. IsBlock e.block) xs n d c.loop-number-test.true c.requires))

pub loop-number-init : goal.loop-number-init
loop-number-init g c = λ k d low. absurd (omega (arith, low))

pub loop-number-preserved : goal.loop-number-preserved
loop-number-preserved g c =
    more (λ d. shown ((g.dyn-1.0.entry d.vtable).1.device_content d.value) ((g.dyn-1.0.entry d.vtable).1.device_block d.value) ((g.dyn-1.0.entry d.vtable).1.device_size d.value) ((g.dyn-1.0.entry d.vtable).1.device_faults d.value)) (λ e. IsDeviceSize e.block e.size) c.args.devices.now c.loop-number.number c.loop-number.invariant
    (λ d. subst₂ IsDeviceSize (c.block_of.ensures d) (c.size_of-size.ensures d) (c.is_device_size.ensures.0 c.if-not-is_device_size.false))

pub returns-then-not-is_device_size-clause-some : goal.returns-then-not-is_device_size-clause-some
returns-then-not-is_device_size-clause-some g c =
    let xs = c.args.devices.now in
    let n = c.loop-number.number in
    by_element xs n c.loop-number-test.true (λ d. (
      _,
      first_without (λ d. shown ((g.dyn-1.0.entry d.vtable).1.device_content d.value) ((g.dyn-1.0.entry d.vtable).1.device_block d.value) ((g.dyn-1.0.entry d.vtable).1.device_size d.value) ((g.dyn-1.0.entry d.vtable).1.device_faults d.value)) (λ e. IsDeviceSize e.block e.size) xs n c.loop-number-test.true c.loop-number.invariant
          (λ e is. let fit = c.is_device_size.ensures.1 (subst₂ IsDeviceSize (sym (c.block_of.ensures e)) (sym (c.size_of-size.ensures e)) is) in cc (fit, c.if-not-is_device_size.true)) d,
      c.size_of-size.ensures d,
    ))

pub returns-clause-none : goal.returns-clause-none
returns-clause-none g c =
    all_have (λ d. shown ((g.dyn-1.0.entry d.vtable).1.device_content d.value) ((g.dyn-1.0.entry d.vtable).1.device_block d.value) ((g.dyn-1.0.entry d.vtable).1.device_size d.value) ((g.dyn-1.0.entry d.vtable).1.device_faults d.value)) (λ e. IsDeviceSize e.block e.size) c.args.devices.now (λ k d low. c.loop-number.invariant k d (omega (arith, low, c.loop-number-test.false)))
