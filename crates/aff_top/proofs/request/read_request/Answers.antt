use Rattle.std.proofs.Common.{Err, inl, inr, refl, sym, ap, subst, subst₂, arith}
use Rattle.aff_model.specs.Content.{IsBlock}
use Rattle.aff_command.specs.Devices.{shown}
use Rattle.aff_top.specs.Texts.{IsRefusedFrom}
use Rattle.aff_top.proofs.Fitting.{block_is, planned_for, size_is}
use Rattle.aff_top.proofs.Outcome.{plan_refused}
use Rattle.aff_top.proofs.request.read_request.Goals as goal

pub returns-in_default-clause-refused : goal.returns-in_default-clause-refused
returns-in_default-clause-refused g c = λ case examiners. ((λ are. c.in_default.ensures.none are.0 are.1, refl), refl, record { folder = omega arith; source = omega arith })

pub read_work-requires : goal.read_work-requires
read_work-requires g c =
    let fit = c.in_default-refused.ensures.none in
    record { block = subst IsBlock (sym (block_is (λ d. shown ((g.dyn-1.0.entry d.vtable).1.device_content d.value) ((g.dyn-1.0.entry d.vtable).1.device_block d.value) ((g.dyn-1.0.entry d.vtable).1.device_size d.value) ((g.dyn-1.0.entry d.vtable).1.device_faults d.value)) c.args.devices.now fit c.first_block.result c.first_block.ensures)) fit.is_block }

pub returns-in-Ok-clause-ready : goal.returns-in-Ok-clause-ready
returns-in-Ok-clause-ready g c = λ case examiners.
    let fit = c.in_default-refused.ensures.none in
    record {
      begun = record { taken = record { words = (c.in-Some.field-0-0, c.in-Some.ensures.some.0); devices = fit }; free = c.in_default-look_into.ensures.free };
      named = c.in-Some.ensures.some.1;
      planned =
          planned_for _ fit (g.S.Source.left c.args.source.now) c.in-Ok.work.plan c.in-Ok.work.script c.first_size.result c.first_block.result
          (size_is (λ d. shown ((g.dyn-1.0.entry d.vtable).1.device_content d.value) ((g.dyn-1.0.entry d.vtable).1.device_block d.value) ((g.dyn-1.0.entry d.vtable).1.device_size d.value) ((g.dyn-1.0.entry d.vtable).1.device_faults d.value)) c.args.devices.now fit c.first_size.result c.first_size.ensures) (block_is (λ d. shown ((g.dyn-1.0.entry d.vtable).1.device_content d.value) ((g.dyn-1.0.entry d.vtable).1.device_block d.value) ((g.dyn-1.0.entry d.vtable).1.device_size d.value) ((g.dyn-1.0.entry d.vtable).1.device_faults d.value)) c.args.devices.now fit c.first_block.result c.first_block.ensures)
          c.in-Ok.ensures.plan.1 c.in-Ok.ensures.plan.2 c.in-Ok.ensures.plan.0 c.in-Ok.ensures.script c.in-Ok.ensures.text;
      whole = c.in-Ok.ensures.whole;
      held = c.look_into.ensures.same;
      later = record { folder = c.look_into.ensures.cause.later; source = c.in-Ok.ensures.cause.later };
    }

pub returns-in-Err-read_work-clause-refused : goal.returns-in-Err-read_work-clause-refused
returns-in-Err-read_work-clause-refused g c = λ case examiners.
    let fit = c.in_default-refused.ensures.none in
    let s = size_is (λ d. shown ((g.dyn-1.0.entry d.vtable).1.device_content d.value) ((g.dyn-1.0.entry d.vtable).1.device_block d.value) ((g.dyn-1.0.entry d.vtable).1.device_size d.value) ((g.dyn-1.0.entry d.vtable).1.device_faults d.value)) c.args.devices.now fit c.first_size.result c.first_size.ensures in
    let b = block_is (λ d. shown ((g.dyn-1.0.entry d.vtable).1.device_content d.value) ((g.dyn-1.0.entry d.vtable).1.device_block d.value) ((g.dyn-1.0.entry d.vtable).1.device_size d.value) ((g.dyn-1.0.entry d.vtable).1.device_faults d.value)) c.args.devices.now fit c.first_block.result c.first_block.ensures in
    plan_refused _ _ _ c.in-Err-read_work.fault (record { taken = record { words = (c.in-Some.field-0-0, c.in-Some.ensures.some.0); devices = fit }; free = c.in_default-look_into.ensures.free })
    (record { devices = refl; handed = refl; examiners = refl; held = c.look_into.ensures.same })
    (record { folder = c.look_into.ensures.cause.later; source = c.in-Err-read_work.ensures.cause.later })
    (λ is. c.in-Err-read_work.ensures.cause.rose (ap Err is))
    (elim c.in-Err-read_work.ensures.refused [
      | inl is ↦ inl is
      | inr (inl is) ↦ inr (inl is)
      | inr (inr why) ↦ inr (inr (subst₂ (λ n m. IsRefusedFrom n m (g.S.Source.left c.args.source.now) c.in-Err-read_work.fault) s b why))
    ])
