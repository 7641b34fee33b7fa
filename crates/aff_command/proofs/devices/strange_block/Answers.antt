use Rattle.std.proofs.Common.{sym, subst, arith}
use Rattle.aff_model.specs.Content.{IsBlock}
use Rattle.aff_command.specs.Devices.{shown}
use Rattle.aff_command.proofs.Shown.{all_have, by_element, first_without, more}
use Rattle.aff_command.proofs.devices.strange_block.Goals as goal

pub loop-number-init : goal.loop-number-init
loop-number-init g c = λ k d low. absurd (omega (arith, low))

pub loop-number-preserved : goal.loop-number-preserved
loop-number-preserved g c =
    more (λ d. shown ((g.dyn-1.0.entry d.vtable).1.device_content d.value) ((g.dyn-1.0.entry d.vtable).1.device_block d.value) ((g.dyn-1.0.entry d.vtable).1.device_size d.value) ((g.dyn-1.0.entry d.vtable).1.device_faults d.value)) (λ e. IsBlock e.block) c.args.devices.now c.loop-number.number c.loop-number.invariant
    (λ d. subst IsBlock (c.block_of-block.ensures d) (c.is_block.ensures.0 c.if-not-is_block.false))

pub returns-then-not-is_block-clause-some : goal.returns-then-not-is_block-clause-some
returns-then-not-is_block-clause-some g c =
    let xs = c.args.devices.now in
    let n = c.loop-number.number in
    by_element xs n c.loop-number-test.true (λ d. (
      _,
      first_without (λ d. shown ((g.dyn-1.0.entry d.vtable).1.device_content d.value) ((g.dyn-1.0.entry d.vtable).1.device_block d.value) ((g.dyn-1.0.entry d.vtable).1.device_size d.value) ((g.dyn-1.0.entry d.vtable).1.device_faults d.value)) (λ e. IsBlock e.block) xs n c.loop-number-test.true c.loop-number.invariant
          (λ e is. let yes = c.is_block.ensures.1 (subst IsBlock (sym (c.block_of-block.ensures e)) is) in cc (yes, c.if-not-is_block.true)) d,
      c.block_of-block.ensures d,
    ))

pub returns-clause-none : goal.returns-clause-none
returns-clause-none g c =
    all_have (λ d. shown ((g.dyn-1.0.entry d.vtable).1.device_content d.value) ((g.dyn-1.0.entry d.vtable).1.device_block d.value) ((g.dyn-1.0.entry d.vtable).1.device_size d.value) ((g.dyn-1.0.entry d.vtable).1.device_faults d.value)) (λ e. IsBlock e.block) c.args.devices.now (λ k d low. c.loop-number.invariant k d (omega (arith, low, c.loop-number-test.false)))
