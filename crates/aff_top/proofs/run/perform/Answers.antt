use Rattle.std.proofs.Common.{[], ◌≡◌, ◌≤◌, length, vec_len, map, refl, ap, subst, subst₂, sym, ◌∙◌, arith}
use Rattle.std.proofs.lemmas.List.{length-map}
use Rattle.aff_command.specs.Devices.{shown}
use Rattle.aff_top.specs.Outcomes.{IsFaultOf, IsReady, facts, request, shown_examiner}
use Rattle.aff_run.proofs.Showing.{all_own}
use Rattle.aff_top.proofs.Fitting.{all_fit, some_devices}
use Rattle.aff_top.proofs.Outcome.{result_of}
use Rattle.aff_top.proofs.run.perform.Goals as goal

pub acquire-requires-clause-count : goal.acquire-requires-clause-count
acquire-requires-clause-count g c κs within =
    let items = c.args.devices.items in
    let ready =
    subst
    (λ v.
    IsReady (request (map (λ w. w.now) c.args.words.now) g.C.Case.content g.F.Folder.tells g.F.Receipt.Telling.told)
    (facts g.F.Folder g.S.Source (map (λ d. shown ((g.dyn-1.0.entry d.vtable).1.device_content d.value) ((g.dyn-1.0.entry d.vtable).1.device_block d.value) ((g.dyn-1.0.entry d.vtable).1.device_size d.value) ((g.dyn-1.0.entry d.vtable).1.device_faults d.value)) v) v (map (λ e. shown_examiner ((goal.Examiner-dyn g (e.vtable, e.value)).rule e.value) ((goal.Examiner-dyn g (e.vtable, e.value)).text e.value) ((goal.Examiner-dyn g (e.vtable, e.value)).state e.value)) c.args.examiners.items) c.args.folder c.args.source.now [])
    (facts g.F.Folder g.S.Source (map (λ d. shown ((g.dyn-1.0.entry d.vtable).1.device_content d.value) ((g.dyn-1.0.entry d.vtable).1.device_block d.value) ((g.dyn-1.0.entry d.vtable).1.device_size d.value) ((g.dyn-1.0.entry d.vtable).1.device_faults d.value)) v) v (map (λ e. shown_examiner ((goal.Examiner-dyn g (e.vtable, e.value)).rule e.value) ((goal.Examiner-dyn g (e.vtable, e.value)).text e.value) ((goal.Examiner-dyn g (e.vtable, e.value)).state e.value)) c.args.examiners.items) c.read_request.new.folder c.read_request.new.source [])
    c.in-Ok.asked.uuid c.in-Ok.asked.plan c.in-Ok.asked.script)
    c.deref.ensures.value (c.in-Ok.ensures.ready g.C.Case.content (map (λ e. shown_examiner ((goal.Examiner-dyn g (e.vtable, e.value)).rule e.value) ((goal.Examiner-dyn g (e.vtable, e.value)).text e.value) ((goal.Examiner-dyn g (e.vtable, e.value)).state e.value)) c.args.examiners.items)) in
    let some = some_devices (λ d. shown ((g.dyn-1.0.entry d.vtable).1.device_content d.value) ((g.dyn-1.0.entry d.vtable).1.device_block d.value) ((g.dyn-1.0.entry d.vtable).1.device_size d.value) ((g.dyn-1.0.entry d.vtable).1.device_faults d.value)) items ready.planned.fit in
    (omega (arith, some.0, c.deref.ensures.len, ap length c.deref.ensures.value), omega (arith, some.1, c.deref.ensures.len, ap length c.deref.ensures.value))

pub acquire-requires-clause-devices : goal.acquire-requires-clause-devices
acquire-requires-clause-devices g c κs within =
    let items = c.args.devices.items in
    let ready =
    subst
    (λ v.
    IsReady (request (map (λ w. w.now) c.args.words.now) g.C.Case.content g.F.Folder.tells g.F.Receipt.Telling.told)
    (facts g.F.Folder g.S.Source (map (λ d. shown ((g.dyn-1.0.entry d.vtable).1.device_content d.value) ((g.dyn-1.0.entry d.vtable).1.device_block d.value) ((g.dyn-1.0.entry d.vtable).1.device_size d.value) ((g.dyn-1.0.entry d.vtable).1.device_faults d.value)) v) v (map (λ e. shown_examiner ((goal.Examiner-dyn g (e.vtable, e.value)).rule e.value) ((goal.Examiner-dyn g (e.vtable, e.value)).text e.value) ((goal.Examiner-dyn g (e.vtable, e.value)).state e.value)) c.args.examiners.items) c.args.folder c.args.source.now [])
    (facts g.F.Folder g.S.Source (map (λ d. shown ((g.dyn-1.0.entry d.vtable).1.device_content d.value) ((g.dyn-1.0.entry d.vtable).1.device_block d.value) ((g.dyn-1.0.entry d.vtable).1.device_size d.value) ((g.dyn-1.0.entry d.vtable).1.device_faults d.value)) v) v (map (λ e. shown_examiner ((goal.Examiner-dyn g (e.vtable, e.value)).rule e.value) ((goal.Examiner-dyn g (e.vtable, e.value)).text e.value) ((goal.Examiner-dyn g (e.vtable, e.value)).state e.value)) c.args.examiners.items) c.read_request.new.folder c.read_request.new.source [])
    c.in-Ok.asked.uuid c.in-Ok.asked.plan c.in-Ok.asked.script)
    c.deref.ensures.value (c.in-Ok.ensures.ready g.C.Case.content (map (λ e. shown_examiner ((goal.Examiner-dyn g (e.vtable, e.value)).rule e.value) ((goal.Examiner-dyn g (e.vtable, e.value)).text e.value) ((goal.Examiner-dyn g (e.vtable, e.value)).state e.value)) c.args.examiners.items)) in
    all_fit (λ d. shown ((g.dyn-1.0.entry d.vtable).1.device_content d.value) ((g.dyn-1.0.entry d.vtable).1.device_block d.value) ((g.dyn-1.0.entry d.vtable).1.device_size d.value) ((g.dyn-1.0.entry d.vtable).1.device_faults d.value)) g.C.Case.content c.in-Ok.asked.plan items ready.planned.fit ready.planned.size ready.planned.block c.requires.told

pub acquire-requires-clause-plan : goal.acquire-requires-clause-plan
acquire-requires-clause-plan g c κs within =
    let items = c.args.devices.items in
    let ready =
    subst
    (λ v.
    IsReady (request (map (λ w. w.now) c.args.words.now) g.C.Case.content g.F.Folder.tells g.F.Receipt.Telling.told)
    (facts g.F.Folder g.S.Source (map (λ d. shown ((g.dyn-1.0.entry d.vtable).1.device_content d.value) ((g.dyn-1.0.entry d.vtable).1.device_block d.value) ((g.dyn-1.0.entry d.vtable).1.device_size d.value) ((g.dyn-1.0.entry d.vtable).1.device_faults d.value)) v) v (map (λ e. shown_examiner ((goal.Examiner-dyn g (e.vtable, e.value)).rule e.value) ((goal.Examiner-dyn g (e.vtable, e.value)).text e.value) ((goal.Examiner-dyn g (e.vtable, e.value)).state e.value)) c.args.examiners.items) c.args.folder c.args.source.now [])
    (facts g.F.Folder g.S.Source (map (λ d. shown ((g.dyn-1.0.entry d.vtable).1.device_content d.value) ((g.dyn-1.0.entry d.vtable).1.device_block d.value) ((g.dyn-1.0.entry d.vtable).1.device_size d.value) ((g.dyn-1.0.entry d.vtable).1.device_faults d.value)) v) v (map (λ e. shown_examiner ((goal.Examiner-dyn g (e.vtable, e.value)).rule e.value) ((goal.Examiner-dyn g (e.vtable, e.value)).text e.value) ((goal.Examiner-dyn g (e.vtable, e.value)).state e.value)) c.args.examiners.items) c.read_request.new.folder c.read_request.new.source [])
    c.in-Ok.asked.uuid c.in-Ok.asked.plan c.in-Ok.asked.script)
    c.deref.ensures.value (c.in-Ok.ensures.ready g.C.Case.content (map (λ e. shown_examiner ((goal.Examiner-dyn g (e.vtable, e.value)).rule e.value) ((goal.Examiner-dyn g (e.vtable, e.value)).text e.value) ((goal.Examiner-dyn g (e.vtable, e.value)).state e.value)) c.args.examiners.items)) in
    ready.planned.is_plan

pub acquire-requires-clause-small : goal.acquire-requires-clause-small
acquire-requires-clause-small g c κs within =
    let items = c.args.devices.items in
    let ready =
    subst
    (λ v.
    IsReady (request (map (λ w. w.now) c.args.words.now) g.C.Case.content g.F.Folder.tells g.F.Receipt.Telling.told)
    (facts g.F.Folder g.S.Source (map (λ d. shown ((g.dyn-1.0.entry d.vtable).1.device_content d.value) ((g.dyn-1.0.entry d.vtable).1.device_block d.value) ((g.dyn-1.0.entry d.vtable).1.device_size d.value) ((g.dyn-1.0.entry d.vtable).1.device_faults d.value)) v) v (map (λ e. shown_examiner ((goal.Examiner-dyn g (e.vtable, e.value)).rule e.value) ((goal.Examiner-dyn g (e.vtable, e.value)).text e.value) ((goal.Examiner-dyn g (e.vtable, e.value)).state e.value)) c.args.examiners.items) c.args.folder c.args.source.now [])
    (facts g.F.Folder g.S.Source (map (λ d. shown ((g.dyn-1.0.entry d.vtable).1.device_content d.value) ((g.dyn-1.0.entry d.vtable).1.device_block d.value) ((g.dyn-1.0.entry d.vtable).1.device_size d.value) ((g.dyn-1.0.entry d.vtable).1.device_faults d.value)) v) v (map (λ e. shown_examiner ((goal.Examiner-dyn g (e.vtable, e.value)).rule e.value) ((goal.Examiner-dyn g (e.vtable, e.value)).text e.value) ((goal.Examiner-dyn g (e.vtable, e.value)).state e.value)) c.args.examiners.items) c.read_request.new.folder c.read_request.new.source [])
    c.in-Ok.asked.uuid c.in-Ok.asked.plan c.in-Ok.asked.script)
    c.deref.ensures.value (c.in-Ok.ensures.ready g.C.Case.content (map (λ e. shown_examiner ((goal.Examiner-dyn g (e.vtable, e.value)).rule e.value) ((goal.Examiner-dyn g (e.vtable, e.value)).text e.value) ((goal.Examiner-dyn g (e.vtable, e.value)).state e.value)) c.args.examiners.items)) in
    omega (arith, ready.planned.size, ready.planned.fit.accepted.bounded)

pub acquire-requires-clause-script : goal.acquire-requires-clause-script
acquire-requires-clause-script g c κs within =
    let items = c.args.devices.items in
    let ready =
    subst
    (λ v.
    IsReady (request (map (λ w. w.now) c.args.words.now) g.C.Case.content g.F.Folder.tells g.F.Receipt.Telling.told)
    (facts g.F.Folder g.S.Source (map (λ d. shown ((g.dyn-1.0.entry d.vtable).1.device_content d.value) ((g.dyn-1.0.entry d.vtable).1.device_block d.value) ((g.dyn-1.0.entry d.vtable).1.device_size d.value) ((g.dyn-1.0.entry d.vtable).1.device_faults d.value)) v) v (map (λ e. shown_examiner ((goal.Examiner-dyn g (e.vtable, e.value)).rule e.value) ((goal.Examiner-dyn g (e.vtable, e.value)).text e.value) ((goal.Examiner-dyn g (e.vtable, e.value)).state e.value)) c.args.examiners.items) c.args.folder c.args.source.now [])
    (facts g.F.Folder g.S.Source (map (λ d. shown ((g.dyn-1.0.entry d.vtable).1.device_content d.value) ((g.dyn-1.0.entry d.vtable).1.device_block d.value) ((g.dyn-1.0.entry d.vtable).1.device_size d.value) ((g.dyn-1.0.entry d.vtable).1.device_faults d.value)) v) v (map (λ e. shown_examiner ((goal.Examiner-dyn g (e.vtable, e.value)).rule e.value) ((goal.Examiner-dyn g (e.vtable, e.value)).text e.value) ((goal.Examiner-dyn g (e.vtable, e.value)).state e.value)) c.args.examiners.items) c.read_request.new.folder c.read_request.new.source [])
    c.in-Ok.asked.uuid c.in-Ok.asked.plan c.in-Ok.asked.script)
    c.deref.ensures.value (c.in-Ok.ensures.ready g.C.Case.content (map (λ e. shown_examiner ((goal.Examiner-dyn g (e.vtable, e.value)).rule e.value) ((goal.Examiner-dyn g (e.vtable, e.value)).text e.value) ((goal.Examiner-dyn g (e.vtable, e.value)).state e.value)) c.args.examiners.items)) in
    ready.planned.is_script

pub acquire-requires-clause-empty : goal.acquire-requires-clause-empty
acquire-requires-clause-empty g c κs within = λ t.
    let items = c.args.devices.items in
    let ready =
    subst
    (λ v.
    IsReady (request (map (λ w. w.now) c.args.words.now) g.C.Case.content g.F.Folder.tells g.F.Receipt.Telling.told)
    (facts g.F.Folder g.S.Source (map (λ d. shown ((g.dyn-1.0.entry d.vtable).1.device_content d.value) ((g.dyn-1.0.entry d.vtable).1.device_block d.value) ((g.dyn-1.0.entry d.vtable).1.device_size d.value) ((g.dyn-1.0.entry d.vtable).1.device_faults d.value)) v) v (map (λ e. shown_examiner ((goal.Examiner-dyn g (e.vtable, e.value)).rule e.value) ((goal.Examiner-dyn g (e.vtable, e.value)).text e.value) ((goal.Examiner-dyn g (e.vtable, e.value)).state e.value)) c.args.examiners.items) c.args.folder c.args.source.now [])
    (facts g.F.Folder g.S.Source (map (λ d. shown ((g.dyn-1.0.entry d.vtable).1.device_content d.value) ((g.dyn-1.0.entry d.vtable).1.device_block d.value) ((g.dyn-1.0.entry d.vtable).1.device_size d.value) ((g.dyn-1.0.entry d.vtable).1.device_faults d.value)) v) v (map (λ e. shown_examiner ((goal.Examiner-dyn g (e.vtable, e.value)).rule e.value) ((goal.Examiner-dyn g (e.vtable, e.value)).text e.value) ((goal.Examiner-dyn g (e.vtable, e.value)).state e.value)) c.args.examiners.items) c.read_request.new.folder c.read_request.new.source [])
    c.in-Ok.asked.uuid c.in-Ok.asked.plan c.in-Ok.asked.script)
    c.deref.ensures.value (c.in-Ok.ensures.ready g.C.Case.content (map (λ e. shown_examiner ((goal.Examiner-dyn g (e.vtable, e.value)).rule e.value) ((goal.Examiner-dyn g (e.vtable, e.value)).text e.value) ((goal.Examiner-dyn g (e.vtable, e.value)).state e.value)) c.args.examiners.items)) in
    ready.held t ∙ ready.begun.free t

pub returns-in-Ok-clause-answer : goal.returns-in-Ok-clause-answer
returns-in-Ok-clause-answer g c =
    let items = c.args.devices.items in
    let ready =
    subst
    (λ v.
    IsReady (request (map (λ w. w.now) c.args.words.now) g.C.Case.content g.F.Folder.tells g.F.Receipt.Telling.told)
    (facts g.F.Folder g.S.Source (map (λ d. shown ((g.dyn-1.0.entry d.vtable).1.device_content d.value) ((g.dyn-1.0.entry d.vtable).1.device_block d.value) ((g.dyn-1.0.entry d.vtable).1.device_size d.value) ((g.dyn-1.0.entry d.vtable).1.device_faults d.value)) v) v (map (λ e. shown_examiner ((goal.Examiner-dyn g (e.vtable, e.value)).rule e.value) ((goal.Examiner-dyn g (e.vtable, e.value)).text e.value) ((goal.Examiner-dyn g (e.vtable, e.value)).state e.value)) c.args.examiners.items) c.args.folder c.args.source.now [])
    (facts g.F.Folder g.S.Source (map (λ d. shown ((g.dyn-1.0.entry d.vtable).1.device_content d.value) ((g.dyn-1.0.entry d.vtable).1.device_block d.value) ((g.dyn-1.0.entry d.vtable).1.device_size d.value) ((g.dyn-1.0.entry d.vtable).1.device_faults d.value)) v) v (map (λ e. shown_examiner ((goal.Examiner-dyn g (e.vtable, e.value)).rule e.value) ((goal.Examiner-dyn g (e.vtable, e.value)).text e.value) ((goal.Examiner-dyn g (e.vtable, e.value)).state e.value)) c.args.examiners.items) c.read_request.new.folder c.read_request.new.source [])
    c.in-Ok.asked.uuid c.in-Ok.asked.plan c.in-Ok.asked.script)
    c.deref.ensures.value (c.in-Ok.ensures.ready g.C.Case.content (map (λ e. shown_examiner ((goal.Examiner-dyn g (e.vtable, e.value)).rule e.value) ((goal.Examiner-dyn g (e.vtable, e.value)).text e.value) ((goal.Examiner-dyn g (e.vtable, e.value)).state e.value)) c.args.examiners.items)) in
    let ended = c.acquire.result in
    let old = facts g.F.Folder g.S.Source (map (λ d. shown ((g.dyn-1.0.entry d.vtable).1.device_content d.value) ((g.dyn-1.0.entry d.vtable).1.device_block d.value) ((g.dyn-1.0.entry d.vtable).1.device_size d.value) ((g.dyn-1.0.entry d.vtable).1.device_faults d.value)) items) items (map (λ e. shown_examiner ((goal.Examiner-dyn g (e.vtable, e.value)).rule e.value) ((goal.Examiner-dyn g (e.vtable, e.value)).text e.value) ((goal.Examiner-dyn g (e.vtable, e.value)).state e.value)) c.args.examiners.items) c.args.folder c.args.source.now [] in
    let mid = facts g.F.Folder g.S.Source (map (λ d. shown ((g.dyn-1.0.entry d.vtable).1.device_content d.value) ((g.dyn-1.0.entry d.vtable).1.device_block d.value) ((g.dyn-1.0.entry d.vtable).1.device_size d.value) ((g.dyn-1.0.entry d.vtable).1.device_faults d.value)) items) items (map (λ e. shown_examiner ((goal.Examiner-dyn g (e.vtable, e.value)).rule e.value) ((goal.Examiner-dyn g (e.vtable, e.value)).text e.value) ((goal.Examiner-dyn g (e.vtable, e.value)).state e.value)) c.args.examiners.items) c.read_request.new.folder c.read_request.new.source [] in
    let new = facts g.F.Folder g.S.Source (map (λ d. shown ((g.dyn-1.0.entry d.vtable).1.device_content d.value) ((g.dyn-1.0.entry d.vtable).1.device_block d.value) ((g.dyn-1.0.entry d.vtable).1.device_size d.value) ((g.dyn-1.0.entry d.vtable).1.device_faults d.value)) ended.devices.items) ended.devices.items (map (λ e. shown_examiner ((goal.Examiner-dyn g (e.vtable, e.value)).rule e.value) ((goal.Examiner-dyn g (e.vtable, e.value)).text e.value) ((goal.Examiner-dyn g (e.vtable, e.value)).state e.value)) ended.examiners.items) ended.folder c.read_request.new.source (map (λ p. g.F.Peek.Peek.peek_faults p) ended.peeks.items) in
    let count : vec_len c.args.devices ≡ length (map (λ d. shown ((g.dyn-1.0.entry d.vtable).1.device_content d.value) ((g.dyn-1.0.entry d.vtable).1.device_block d.value) ((g.dyn-1.0.entry d.vtable).1.device_size d.value) ((g.dyn-1.0.entry d.vtable).1.device_faults d.value)) items) = omega (arith, c.deref.ensures.len, ap length c.deref.ensures.value, length-map items (λ d. shown ((g.dyn-1.0.entry d.vtable).1.device_content d.value) ((g.dyn-1.0.entry d.vtable).1.device_block d.value) ((g.dyn-1.0.entry d.vtable).1.device_size d.value) ((g.dyn-1.0.entry d.vtable).1.device_faults d.value))) in
    let lookers : vec_len c.args.examiners ≡ length (map (λ e. shown_examiner ((goal.Examiner-dyn g (e.vtable, e.value)).rule e.value) ((goal.Examiner-dyn g (e.vtable, e.value)).text e.value) ((goal.Examiner-dyn g (e.vtable, e.value)).state e.value)) c.args.examiners.items) = omega (arith, c.args.examiners.ok.0, length-map c.args.examiners.items (λ e. shown_examiner ((goal.Examiner-dyn g (e.vtable, e.value)).rule e.value) ((goal.Examiner-dyn g (e.vtable, e.value)).text e.value) ((goal.Examiner-dyn g (e.vtable, e.value)).state e.value))) in
    let later : mid.source_faults ≤ new.source_faults = omega arith in
    result_of (request (map (λ w. w.now) c.args.words.now) g.C.Case.content g.F.Folder.tells g.F.Receipt.Telling.told) old mid new c.in-Ok.asked.uuid c.in-Ok.asked.plan c.in-Ok.asked.script (vec_len c.args.devices) (vec_len c.args.examiners) ready count lookers refl later
    c.acquire.ensures.later (λ p. g.F.Peek.Peek.peek_faults p) ended.peeks.items refl ended.outcome c.acquire.ensures.says

pub returns-in-Err-clause-answer : goal.returns-in-Err-clause-answer
returns-in-Err-clause-answer g c =
    subst₂
    (λ v n.
    IsFaultOf c.in-Err.fault (request (map (λ w. w.now) c.args.words.now) g.C.Case.content g.F.Folder.tells g.F.Receipt.Telling.told)
    (facts g.F.Folder g.S.Source (map (λ d. shown ((g.dyn-1.0.entry d.vtable).1.device_content d.value) ((g.dyn-1.0.entry d.vtable).1.device_block d.value) ((g.dyn-1.0.entry d.vtable).1.device_size d.value) ((g.dyn-1.0.entry d.vtable).1.device_faults d.value)) v) v (map (λ e. shown_examiner ((goal.Examiner-dyn g (e.vtable, e.value)).rule e.value) ((goal.Examiner-dyn g (e.vtable, e.value)).text e.value) ((goal.Examiner-dyn g (e.vtable, e.value)).state e.value)) c.args.examiners.items) c.args.folder c.args.source.now [])
    (facts g.F.Folder g.S.Source (map (λ d. shown ((g.dyn-1.0.entry d.vtable).1.device_content d.value) ((g.dyn-1.0.entry d.vtable).1.device_block d.value) ((g.dyn-1.0.entry d.vtable).1.device_size d.value) ((g.dyn-1.0.entry d.vtable).1.device_faults d.value)) v) v (map (λ e. shown_examiner ((goal.Examiner-dyn g (e.vtable, e.value)).rule e.value) ((goal.Examiner-dyn g (e.vtable, e.value)).text e.value) ((goal.Examiner-dyn g (e.vtable, e.value)).state e.value)) c.args.examiners.items) c.read_request.new.folder c.read_request.new.source n))
    c.deref.ensures.value (ap (λ v. map (λ p. g.F.Peek.Peek.peek_faults p) v) (sym c.new.ensures.items)) (c.in-Err.ensures.refused g.C.Case.content (map (λ e. shown_examiner ((goal.Examiner-dyn g (e.vtable, e.value)).rule e.value) ((goal.Examiner-dyn g (e.vtable, e.value)).text e.value) ((goal.Examiner-dyn g (e.vtable, e.value)).state e.value)) c.args.examiners.items))

pub returns-in-Err-clause-own : goal.returns-in-Err-clause-own
returns-in-Err-clause-own g c = all_own (λ e. (goal.Examiner-dyn g (e.vtable, e.value)).rule e.value) (λ e. (goal.Examiner-dyn g (e.vtable, e.value)).text e.value) c.args.examiners.items
