use Rattle.std.proofs.Common.{◌≡◌, ◌+◌, ◌≤◌, ◌<◌, ◌∷◌, [], ◌++◌, length, refl, sym, ap, subst, ◌∙◌, arith}
use Rattle.std.specs.Prelude.{All}
use Rattle.std.proofs.lemmas.Iterator.Adapters.{YieldsList-from_vec}
use Rattle.std.proofs.lemmas.Iterator.Consumers.{YieldsList-end}
use Rattle.std.proofs.lemmas.List.{length_push, map-id}
use Rattle.std.proofs.lemmas.List.Elements.{All-head, All-tail}
use Rattle.aff_claim.specs.Values.{Claiming}
use Rattle.aff_worker.specs.declared.worker.Worker.{Worker}
use Rattle.aff_run.specs.declared.crew.Kit.{Kit}
use Rattle.aff_run.specs.Tasks.{devices_of, examinations_of, sessions_of}
use Rattle.aff_run.proofs.Crews.{staffed, staffed_can, staffed_examinations, staffed_sessions}
use Rattle.aff_run.proofs.crew.staff.Goals as goal

pub loop-device-init : goal.loop-device-init
loop-device-init g c =
    let none = ap length c.requires.none in
    let devices = c.into_iter-device-iterator.ensures.into_iter_gives.1 in (
      omega (arith, none, c.args.room.ok.0),
      omega (arith, devices, c.requires.room),
      ap devices_of c.requires.none,
      omega (arith, devices, c.into_iter-kits.ensures.len, c.requires.count),
      λ claims workers all. all,
      λ list claims workers plan all fit k d below. absurd (omega (arith, below, none)),
      ap sessions_of c.requires.none,
      refl,
      ap examinations_of c.requires.none,
    )

pub returns-clause-devices : goal.returns-clause-devices
returns-clause-devices g c =
    let e = YieldsList-end (YieldsList-from_vec {s = c.into_iter-device-iterator.result} c.args.devices.items (cc) (cc)) c.loop-device.yielded c.loop-device.device-iterator c.loop-device.yielded_by c.next.result c.next.new.self c.in-None.is c.next.ensures.steps in
    c.loop-device.invariant.2 ∙ (sym (map-id c.loop-device.yielded) ∙ e.0)

pub loop-device-preserved : goal.loop-device-preserved
loop-device-preserved g c =
    let i = c.loop-device.invariant in
    let kit = c.in-Some-next.ensures in
    let longer = length_push c.loop-device.yielded c.in-Some.device in
    let w : Worker _ _ = record { pass = c.in-Some-next.field-0.pass; device = c.in-Some.device; order = c.in-Some-next.field-0.order; reader = c.in-Some-next.field-0.reader } in
    let tasks = c.loop-device.tasks.items in
    let news = c.push_reserved.new.self.items in
    let rest = c.next-in-loop-device.new.self.rest.items in (
      omega (arith, longer, c.push_reserved.ensures.len, i.0),
      omega (arith, longer, c.push_reserved.ensures.capacity, c.in-Some.ensures.steps.1, i.1),
      staffed tasks news w c.loop-device.yielded c.push_reserved.ensures.items i.2,
      omega (arith, kit.len, c.in-Some.ensures.steps.1, i.3),
      λ claims workers all.
          All-tail (λ (k : Kit). (k.pass.claims ≡ claims) × (k.pass.view.number < workers)) c.in-Some-next.field-0 rest
          (subst (All (λ (k : Kit). (k.pass.claims ≡ claims) × (k.pass.view.number < workers))) kit.items (i.4 claims workers all)),
      λ list claims workers plan all fit.
          let one = All-head (λ (k : Kit). (k.pass.claims ≡ claims) × (k.pass.view.number < workers)) c.in-Some-next.field-0 rest
          (subst (All (λ (k : Kit). (k.pass.claims ≡ claims) × (k.pass.view.number < workers))) kit.items (i.4 claims workers all)) in
          staffed_can (λ d. (goal.Device-dyn g (d.vtable, d.value)).device_content d.value) (λ d. (goal.Device-dyn g (d.vtable, d.value)).device_block d.value) (λ d. (goal.Device-dyn g (d.vtable, d.value)).device_size d.value)
          list claims workers g.C.Case.content plan tasks news w c.push_reserved.ensures.items one.0 one.1 (i.5 list claims workers plan all) fit,
      staffed_sessions tasks news w c.push_reserved.ensures.items i.6,
      c.push_reserved.ensures.capacity ∙ i.7,
      staffed_examinations tasks news w c.push_reserved.ensures.items i.8,
    )

pub returns-clause-tasks : goal.returns-clause-tasks
returns-clause-tasks g c = λ list claims workers plan all fit.
    c.loop-device.invariant.5 list claims workers plan (subst (All (λ (k : Kit). (k.pass.claims ≡ claims) × (k.pass.view.number < workers))) (sym c.into_iter-kits.ensures.rest) all) fit
