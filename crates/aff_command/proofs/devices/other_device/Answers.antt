use Rattle.std.proofs.Common.{◌≡◌, sym, arith, ◌∙◌}
use Rattle.aff_command.specs.Devices.{AreAlike, shown}
use Rattle.aff_command.proofs.Shown.{all_have, by_element, first_without, more}
use Rattle.aff_command.proofs.devices.other_device.Goals as goal

pub loop-number-init : goal.loop-number-init
loop-number-init g c = λ k d low. absurd (omega (arith, low))

pub loop-number-preserved : goal.loop-number-preserved
loop-number-preserved g c =
    more (λ d. shown ((g.dyn-1.0.entry d.vtable).1.device_content d.value) ((g.dyn-1.0.entry d.vtable).1.device_block d.value) ((g.dyn-1.0.entry d.vtable).1.device_size d.value) ((g.dyn-1.0.entry d.vtable).1.device_faults d.value)) (λ e. (e.block ≡ c.args.block) × (e.size ≡ c.args.size)) c.args.devices.now c.loop-number.number c.loop-number.invariant (λ d. c.is_like.ensures.like c.if-not-is_like.false d)

pub returns-then-not-is_like-clause-some : goal.returns-then-not-is_like-clause-some
returns-then-not-is_like-clause-some g c = λ f blocks sizes.
    let xs = c.args.devices.now in
    let n = c.loop-number.number in
    by_element xs n c.loop-number-test.true (λ d. (
      _,
      first_without (λ d. shown ((g.dyn-1.0.entry d.vtable).1.device_content d.value) ((g.dyn-1.0.entry d.vtable).1.device_block d.value) ((g.dyn-1.0.entry d.vtable).1.device_size d.value) ((g.dyn-1.0.entry d.vtable).1.device_faults d.value)) (λ e. AreAlike e f) xs n c.loop-number-test.true
          (λ k e low. let same = c.loop-number.invariant k e low in record { blocks = same.0 ∙ sym blocks; sizes = same.1 ∙ sym sizes })
          (λ e like. c.is_like.ensures.other c.if-not-is_like.true e (like.blocks ∙ blocks, like.sizes ∙ sizes)) d,
    ))

pub returns-clause-none : goal.returns-clause-none
returns-clause-none g c = λ f blocks sizes. all_have (λ d. shown ((g.dyn-1.0.entry d.vtable).1.device_content d.value) ((g.dyn-1.0.entry d.vtable).1.device_block d.value) ((g.dyn-1.0.entry d.vtable).1.device_size d.value) ((g.dyn-1.0.entry d.vtable).1.device_faults d.value)) (λ e. AreAlike e f) c.args.devices.now
    (λ k d low. let same = c.loop-number.invariant k d (omega (arith, low, c.loop-number-test.false)) in record { blocks = same.0 ∙ sym blocks; sizes = same.1 ∙ sym sizes })
