use Rattle.std.proofs.Common.{◌≡◌, ℕ, ◌≤◌, ◌<◌, List, length, map, vec_len, vec_capacity, sym, ap, subst, ◌∙◌, arith, rules, inl}
use Rattle.std.specs.Prelude.{All}
use Rattle.std.proofs.lemmas.List.{length-map}
use Rattle.aff_model.specs.Causes.{Rose}
use Rattle.aff_book.specs.Pages.{list_of, run_of}
use Rattle.aff_script.specs.declared.script.Request.{Request}
use Rattle.aff_session.specs.Sittings.{Sitting}
use Rattle.aff_run.specs.Ends.{HasFailed, Leaves, asked}
use Rattle.aff_run.specs.Sessions.{IsFresh}
use Rattle.aff_run.specs.Tasks.{devices_of, sessions_of}
use Rattle.aff_run.proofs.Crews.{back_asked, back_kept, back_lived, back_watched, same_can}
use Rattle.aff_run.proofs.Ends.{cut_off_empty}
use Rattle.aff_run.proofs.Keeping.{kept_both, kept_fit, kept_same, same_fit}
use Rattle.aff_run.proofs.Showing.{all_go_on, all_own, back_own, done_examined, watched_count}
use Rattle.aff_run.proofs.run.run_named.Goals as goal

pub returns-in-Err-clause-leaves : goal.returns-in-Err-clause-leaves
returns-in-Err-clause-leaves g c =
    inl (cut_off_empty g.C.Case.content g.F.Folder.tells (asked c.args.volume.now c.args.plan.now g.N.Named.run_workers c.args.examiners.len) c.requires.plan (g.F.Folder.held c.in-Err.refused.folder)
    (λ t. ap g.F.Folder.held c.in-Err.ensures.refused ∙ c.requires.empty t))

pub returns-in-Err-clause-kept : goal.returns-in-Err-clause-kept
returns-in-Err-clause-kept g c = kept_same (λ d. (goal.Device-dyn g (d.vtable, d.value)).device_content d.value) (λ d. (goal.Device-dyn g (d.vtable, d.value)).device_block d.value) (λ d. (goal.Device-dyn g (d.vtable, d.value)).device_size d.value)
    (λ d. (goal.Device-dyn g (d.vtable, d.value)).device_faults d.value) c.args.devices.items

pub returns-in-Err-clause-own : goal.returns-in-Err-clause-own
returns-in-Err-clause-own g c = all_own (λ e. (goal.Examiner-dyn g (e.vtable, e.value)).rule e.value) (λ e. (goal.Examiner-dyn g (e.vtable, e.value)).text e.value) c.args.examiners.items

pub run_tasks-book-requires-clause-tasks : goal.run_tasks-book-requires-clause-tasks
run_tasks-book-requires-clause-tasks g c κs within =
    let L = list_of (run_of g.C.Case g.N.Named) in
    let claims = c.args.made.claims in
    let workers = g.N.Named.run_workers in
    let plan = c.args.plan.now in
    let staff = c.staff in
    let seat = c.seat-tasks in
    let post = c.post-tasks in
    same_can (λ d. (goal.Device-dyn g (d.vtable, d.value)).device_content d.value) (λ d. (goal.Device-dyn g (d.vtable, d.value)).device_block d.value) (λ d. (goal.Device-dyn g (d.vtable, d.value)).device_size d.value)
    (λ d. (goal.Device-dyn g (d.vtable, d.value)).device_faults d.value) L claims workers g.C.Case.content plan post.result.items c.deref_mut.result.now c.deref_mut.ensures.value
    (post.ensures.tasks L claims workers plan
    (seat.ensures.tasks L claims workers plan
    (staff.ensures.tasks L claims workers plan c.requires.kits.1
    (same_fit (λ d. (goal.Device-dyn g (d.vtable, d.value)).device_content d.value) (λ d. (goal.Device-dyn g (d.vtable, d.value)).device_block d.value) (λ d. (goal.Device-dyn g (d.vtable, d.value)).device_size d.value)
    (λ d. (goal.Device-dyn g (d.vtable, d.value)).device_faults d.value) g.C.Case.content plan c.args.devices.items (devices_of staff.result.items) staff.ensures.devices c.requires.devices))
    (subst (All (λ (s : Sitting g.row.F-Receipt.Denot g.row.F-Peek.Denot). IsFresh plan claims L s)) (sym seat.ensures.sessions) c.requires.sessions.1))
    c.requires.followers.2)

pub sweep_by_first-whole-requires-clause-some : goal.sweep_by_first-whole-requires-clause-some
sweep_by_first-whole-requires-clause-some g c κs within =
    let post = c.post-tasks in
    let ran = c.run_tasks-book in
    let back = c.disband-devices.result.0.items in
    let first = back_kept (λ d. (goal.Device-dyn g (d.vtable, d.value)).device_content d.value) (λ d. (goal.Device-dyn g (d.vtable, d.value)).device_block d.value) (λ d. (goal.Device-dyn g (d.vtable, d.value)).device_size d.value)
    (λ d. (goal.Device-dyn g (d.vtable, d.value)).device_faults d.value)
    (list_of (run_of g.C.Case g.N.Named)) c.args.plan.now g.F.Receipt.Telling.receipt_tells g.F.Receipt.Telling.told g.F.Peek.Peek.peek_faults (λ e. (goal.Examiner-dyn g (e.vtable, e.value)).rule e.value) (λ e. (goal.Examiner-dyn g (e.vtable, e.value)).text e.value) (λ e. (goal.Examiner-dyn g (e.vtable, e.value)).state e.value)
    post.result.items c.deref_mut.result.now ran.new.tasks _ post.result.len c.args.devices.items back c.deref_mut.ensures.value c.deref_mut.ensures.len ran.ensures.count ran.ensures.each
    (post.ensures.devices ∙ (c.seat-tasks.ensures.devices ∙ c.staff.ensures.devices)) c.disband-devices.ensures.devices in
    let len = c.args.devices.ok.0 in
    omega (arith, first.count, len, c.requires.count.0)

pub sweep_by_first-whole-requires-clause-devices : goal.sweep_by_first-whole-requires-clause-devices
sweep_by_first-whole-requires-clause-devices g c κs within =
    let post = c.post-tasks in
    let ran = c.run_tasks-book in
    let back = c.disband-devices.result.0.items in
    let first = back_kept (λ d. (goal.Device-dyn g (d.vtable, d.value)).device_content d.value) (λ d. (goal.Device-dyn g (d.vtable, d.value)).device_block d.value) (λ d. (goal.Device-dyn g (d.vtable, d.value)).device_size d.value)
    (λ d. (goal.Device-dyn g (d.vtable, d.value)).device_faults d.value)
    (list_of (run_of g.C.Case g.N.Named)) c.args.plan.now g.F.Receipt.Telling.receipt_tells g.F.Receipt.Telling.told g.F.Peek.Peek.peek_faults (λ e. (goal.Examiner-dyn g (e.vtable, e.value)).rule e.value) (λ e. (goal.Examiner-dyn g (e.vtable, e.value)).text e.value) (λ e. (goal.Examiner-dyn g (e.vtable, e.value)).state e.value)
    post.result.items c.deref_mut.result.now ran.new.tasks _ post.result.len c.args.devices.items back c.deref_mut.ensures.value c.deref_mut.ensures.len ran.ensures.count ran.ensures.each
    (post.ensures.devices ∙ (c.seat-tasks.ensures.devices ∙ c.staff.ensures.devices)) c.disband-devices.ensures.devices in
    kept_fit (λ d. (goal.Device-dyn g (d.vtable, d.value)).device_content d.value) (λ d. (goal.Device-dyn g (d.vtable, d.value)).device_block d.value) (λ d. (goal.Device-dyn g (d.vtable, d.value)).device_size d.value)
    (λ d. (goal.Device-dyn g (d.vtable, d.value)).device_faults d.value) g.C.Case.content c.args.plan.now c.args.devices.items back first c.requires.devices

pub close-end-requires-clause-sessions : goal.close-end-requires-clause-sessions
close-end-requires-clause-sessions g c κs within =
    let ran = c.run_tasks-book in
    back_lived (λ d. (goal.Device-dyn g (d.vtable, d.value)).device_content d.value) (λ d. (goal.Device-dyn g (d.vtable, d.value)).device_block d.value) (λ d. (goal.Device-dyn g (d.vtable, d.value)).device_size d.value)
    (λ d. (goal.Device-dyn g (d.vtable, d.value)).device_faults d.value)
    (list_of (run_of g.C.Case g.N.Named)) c.args.plan.now g.F.Receipt.Telling.receipt_tells g.F.Receipt.Telling.told g.F.Peek.Peek.peek_faults (λ e. (goal.Examiner-dyn g (e.vtable, e.value)).rule e.value) (λ e. (goal.Examiner-dyn g (e.vtable, e.value)).text e.value) (λ e. (goal.Examiner-dyn g (e.vtable, e.value)).state e.value)
    c.deref_mut.result.now ran.new.tasks _ c.post-tasks.result.len c.disband-devices.result.1.items c.deref_mut.ensures.len ran.ensures.count ran.ensures.each c.disband-devices.ensures.sessions

pub close-end-requires-clause-examinations : goal.close-end-requires-clause-examinations
close-end-requires-clause-examinations g c κs within =
    let watched = back_watched (λ d. (goal.Device-dyn g (d.vtable, d.value)).device_content d.value) (λ d. (goal.Device-dyn g (d.vtable, d.value)).device_block d.value) (λ d. (goal.Device-dyn g (d.vtable, d.value)).device_size d.value)
    (λ d. (goal.Device-dyn g (d.vtable, d.value)).device_faults d.value)
    (list_of (run_of g.C.Case g.N.Named)) c.args.plan.now g.F.Receipt.Telling.receipt_tells g.F.Receipt.Telling.told g.F.Peek.Peek.peek_faults (λ e. (goal.Examiner-dyn g (e.vtable, e.value)).rule e.value) (λ e. (goal.Examiner-dyn g (e.vtable, e.value)).text e.value) (λ e. (goal.Examiner-dyn g (e.vtable, e.value)).state e.value)
    c.post-tasks.result.items c.deref_mut.result.now c.run_tasks-book.new.tasks _ c.post-tasks.result.len c.args.examiners.items c.disband-devices.result.2.items c.deref_mut.ensures.value c.deref_mut.ensures.len c.run_tasks-book.ensures.count c.run_tasks-book.ensures.each
    c.post-tasks.ensures.examiners c.disband-devices.ensures.examinations in
    all_go_on g.F.Receipt.Telling.receipt_tells g.F.Receipt.Telling.told g.F.Peek.Peek.peek_faults (λ e. (goal.Examiner-dyn g (e.vtable, e.value)).rule e.value) (λ e. (goal.Examiner-dyn g (e.vtable, e.value)).text e.value) (λ e. (goal.Examiner-dyn g (e.vtable, e.value)).state e.value) c.args.plan.now (list_of (run_of g.C.Case g.N.Named)) c.args.examiners.items c.disband-devices.result.2.items watched

pub close-end-requires-clause-room : goal.close-end-requires-clause-room
close-end-requires-clause-room g c κs within =
    let post = c.post-tasks in
    let ran = c.run_tasks-book in
    let same = back_asked (λ d. (goal.Device-dyn g (d.vtable, d.value)).device_content d.value) (λ d. (goal.Device-dyn g (d.vtable, d.value)).device_block d.value) (λ d. (goal.Device-dyn g (d.vtable, d.value)).device_size d.value)
    (λ d. (goal.Device-dyn g (d.vtable, d.value)).device_faults d.value)
    (list_of (run_of g.C.Case g.N.Named)) c.args.plan.now g.F.Receipt.Telling.receipt_tells g.F.Receipt.Telling.told g.F.Peek.Peek.peek_faults (λ e. (goal.Examiner-dyn g (e.vtable, e.value)).rule e.value) (λ e. (goal.Examiner-dyn g (e.vtable, e.value)).text e.value) (λ e. (goal.Examiner-dyn g (e.vtable, e.value)).state e.value)
    post.result.items c.deref_mut.result.now ran.new.tasks _ post.result.len c.args.made.sessions.items c.disband-devices.result.1.items c.deref_mut.ensures.value c.deref_mut.ensures.len ran.ensures.count ran.ensures.each
    (post.ensures.sessions ∙ c.seat-tasks.ensures.sessions) c.disband-devices.ensures.sessions in
    let watched = back_watched (λ d. (goal.Device-dyn g (d.vtable, d.value)).device_content d.value) (λ d. (goal.Device-dyn g (d.vtable, d.value)).device_block d.value) (λ d. (goal.Device-dyn g (d.vtable, d.value)).device_size d.value)
    (λ d. (goal.Device-dyn g (d.vtable, d.value)).device_faults d.value)
    (list_of (run_of g.C.Case g.N.Named)) c.args.plan.now g.F.Receipt.Telling.receipt_tells g.F.Receipt.Telling.told g.F.Peek.Peek.peek_faults (λ e. (goal.Examiner-dyn g (e.vtable, e.value)).rule e.value) (λ e. (goal.Examiner-dyn g (e.vtable, e.value)).text e.value) (λ e. (goal.Examiner-dyn g (e.vtable, e.value)).state e.value)
    c.post-tasks.result.items c.deref_mut.result.now c.run_tasks-book.new.tasks _ c.post-tasks.result.len c.args.examiners.items c.disband-devices.result.2.items c.deref_mut.ensures.value c.deref_mut.ensures.len c.run_tasks-book.ensures.count c.run_tasks-book.ensures.each
    c.post-tasks.ensures.examiners c.disband-devices.ensures.examinations in
    let watchers = watched_count g.F.Receipt.Telling.receipt_tells g.F.Receipt.Telling.told g.F.Peek.Peek.peek_faults (λ e. (goal.Examiner-dyn g (e.vtable, e.value)).rule e.value) (λ e. (goal.Examiner-dyn g (e.vtable, e.value)).text e.value) (λ e. (goal.Examiner-dyn g (e.vtable, e.value)).state e.value) c.args.plan.now (list_of (run_of g.C.Case g.N.Named)) c.args.examiners.items c.disband-devices.result.2.items watched in
    let lookers : c.disband-devices.result.2.len ≡ c.args.examiners.len = omega (arith, watchers, c.args.examiners.ok.0, c.disband-devices.result.2.ok.0) in
    let count = ap length same in
    let olds = c.args.made.sessions.ok.0 in
    let news = c.disband-devices.result.1.ok.0 in
    let here = length-map c.disband-devices.result.1.items (λ s. s.requests) in
    let there = length-map c.args.made.sessions.items (λ s. s.requests) in
    let room = c.requires.room in
    (omega (arith, count, olds, news, here, there, room.4), omega (arith, lookers, room.5), omega (arith, lookers, count, olds, news, here, there, room.6))

pub returns-clause-leaves : goal.returns-clause-leaves
returns-clause-leaves g c =
    let post = c.post-tasks in
    let ran = c.run_tasks-book in
    let same = back_asked (λ d. (goal.Device-dyn g (d.vtable, d.value)).device_content d.value) (λ d. (goal.Device-dyn g (d.vtable, d.value)).device_block d.value) (λ d. (goal.Device-dyn g (d.vtable, d.value)).device_size d.value)
    (λ d. (goal.Device-dyn g (d.vtable, d.value)).device_faults d.value)
    (list_of (run_of g.C.Case g.N.Named)) c.args.plan.now g.F.Receipt.Telling.receipt_tells g.F.Receipt.Telling.told g.F.Peek.Peek.peek_faults (λ e. (goal.Examiner-dyn g (e.vtable, e.value)).rule e.value) (λ e. (goal.Examiner-dyn g (e.vtable, e.value)).text e.value) (λ e. (goal.Examiner-dyn g (e.vtable, e.value)).state e.value)
    post.result.items c.deref_mut.result.now ran.new.tasks _ post.result.len c.args.made.sessions.items c.disband-devices.result.1.items c.deref_mut.ensures.value c.deref_mut.ensures.len ran.ensures.count ran.ensures.each
    (post.ensures.sessions ∙ c.seat-tasks.ensures.sessions) c.disband-devices.ensures.sessions in
    let watched = back_watched (λ d. (goal.Device-dyn g (d.vtable, d.value)).device_content d.value) (λ d. (goal.Device-dyn g (d.vtable, d.value)).device_block d.value) (λ d. (goal.Device-dyn g (d.vtable, d.value)).device_size d.value)
    (λ d. (goal.Device-dyn g (d.vtable, d.value)).device_faults d.value)
    (list_of (run_of g.C.Case g.N.Named)) c.args.plan.now g.F.Receipt.Telling.receipt_tells g.F.Receipt.Telling.told g.F.Peek.Peek.peek_faults (λ e. (goal.Examiner-dyn g (e.vtable, e.value)).rule e.value) (λ e. (goal.Examiner-dyn g (e.vtable, e.value)).text e.value) (λ e. (goal.Examiner-dyn g (e.vtable, e.value)).state e.value)
    c.post-tasks.result.items c.deref_mut.result.now c.run_tasks-book.new.tasks _ c.post-tasks.result.len c.args.examiners.items c.disband-devices.result.2.items c.deref_mut.ensures.value c.deref_mut.ensures.len c.run_tasks-book.ensures.count c.run_tasks-book.ensures.each
    c.post-tasks.ensures.examiners c.disband-devices.ensures.examinations in
    let watchers = watched_count g.F.Receipt.Telling.receipt_tells g.F.Receipt.Telling.told g.F.Peek.Peek.peek_faults (λ e. (goal.Examiner-dyn g (e.vtable, e.value)).rule e.value) (λ e. (goal.Examiner-dyn g (e.vtable, e.value)).text e.value) (λ e. (goal.Examiner-dyn g (e.vtable, e.value)).state e.value) c.args.plan.now (list_of (run_of g.C.Case g.N.Named)) c.args.examiners.items c.disband-devices.result.2.items watched in
    let lookers : c.disband-devices.result.2.len ≡ c.args.examiners.len = omega (arith, watchers, c.args.examiners.ok.0, c.disband-devices.result.2.ok.0) in
    let end = c.close-end in
    let scripts = c.args.made.sessions.items in
    subst (λ (n : ℕ). Leaves g.C.Case.content g.F.Folder.tells g.F.Receipt.Telling.told (asked c.args.volume.now c.args.plan.now g.N.Named.run_workers n) (map (λ (s : Sitting g.row.F-Receipt.Denot g.row.F-Peek.Denot). s.requests) scripts) (g.F.Folder.held end.result.folder)
    (Rose g.N.Named.run_opened (g.F.Folder.folder_faults end.result.folder)) (HasFailed g.F.Peek.Peek.peek_faults end.new.peeks.items) end.result.end) lookers
    (subst (λ (s : List (List Request)). Leaves g.C.Case.content g.F.Folder.tells g.F.Receipt.Telling.told (asked c.args.volume.now c.args.plan.now g.N.Named.run_workers c.disband-devices.result.2.len) s (g.F.Folder.held end.result.folder)
    (Rose g.N.Named.run_opened (g.F.Folder.folder_faults end.result.folder)) (HasFailed g.F.Peek.Peek.peek_faults end.new.peeks.items) end.result.end) same end.ensures.leaves)

pub returns-clause-kept : goal.returns-clause-kept
returns-clause-kept g c =
    let post = c.post-tasks in
    let ran = c.run_tasks-book in
    let back = c.disband-devices.result.0.items in
    let first = back_kept (λ d. (goal.Device-dyn g (d.vtable, d.value)).device_content d.value) (λ d. (goal.Device-dyn g (d.vtable, d.value)).device_block d.value) (λ d. (goal.Device-dyn g (d.vtable, d.value)).device_size d.value)
    (λ d. (goal.Device-dyn g (d.vtable, d.value)).device_faults d.value)
    (list_of (run_of g.C.Case g.N.Named)) c.args.plan.now g.F.Receipt.Telling.receipt_tells g.F.Receipt.Telling.told g.F.Peek.Peek.peek_faults (λ e. (goal.Examiner-dyn g (e.vtable, e.value)).rule e.value) (λ e. (goal.Examiner-dyn g (e.vtable, e.value)).text e.value) (λ e. (goal.Examiner-dyn g (e.vtable, e.value)).state e.value)
    post.result.items c.deref_mut.result.now ran.new.tasks _ post.result.len c.args.devices.items back c.deref_mut.ensures.value c.deref_mut.ensures.len ran.ensures.count ran.ensures.each
    (post.ensures.devices ∙ (c.seat-tasks.ensures.devices ∙ c.staff.ensures.devices)) c.disband-devices.ensures.devices in
    kept_both (λ d. (goal.Device-dyn g (d.vtable, d.value)).device_content d.value) (λ d. (goal.Device-dyn g (d.vtable, d.value)).device_block d.value) (λ d. (goal.Device-dyn g (d.vtable, d.value)).device_size d.value)
    (λ d. (goal.Device-dyn g (d.vtable, d.value)).device_faults d.value) c.args.devices.items back c.sweep_by_first-whole.new.devices.items first c.sweep_by_first-whole.ensures.kept

pub returns-clause-own : goal.returns-clause-own
returns-clause-own g c =
    let watched = back_watched (λ d. (goal.Device-dyn g (d.vtable, d.value)).device_content d.value) (λ d. (goal.Device-dyn g (d.vtable, d.value)).device_block d.value) (λ d. (goal.Device-dyn g (d.vtable, d.value)).device_size d.value)
    (λ d. (goal.Device-dyn g (d.vtable, d.value)).device_faults d.value)
    (list_of (run_of g.C.Case g.N.Named)) c.args.plan.now g.F.Receipt.Telling.receipt_tells g.F.Receipt.Telling.told g.F.Peek.Peek.peek_faults (λ e. (goal.Examiner-dyn g (e.vtable, e.value)).rule e.value) (λ e. (goal.Examiner-dyn g (e.vtable, e.value)).text e.value) (λ e. (goal.Examiner-dyn g (e.vtable, e.value)).state e.value)
    c.post-tasks.result.items c.deref_mut.result.now c.run_tasks-book.new.tasks _ c.post-tasks.result.len c.args.examiners.items c.disband-devices.result.2.items c.deref_mut.ensures.value c.deref_mut.ensures.len c.run_tasks-book.ensures.count c.run_tasks-book.ensures.each
    c.post-tasks.ensures.examiners c.disband-devices.ensures.examinations in
    back_own g.F.Receipt.Telling.receipt_tells g.F.Receipt.Telling.told g.F.Peek.Peek.peek_faults (λ e. (goal.Examiner-dyn g (e.vtable, e.value)).rule e.value) (λ e. (goal.Examiner-dyn g (e.vtable, e.value)).text e.value) (λ e. (goal.Examiner-dyn g (e.vtable, e.value)).state e.value) c.args.plan.now (list_of (run_of g.C.Case g.N.Named)) c.args.examiners.items c.close-end.result.examiners.items c.disband-devices.result.2.items watched c.close-end.ensures.kept

pub returns-clause-examined : goal.returns-clause-examined
returns-clause-examined g c =
    let watched = back_watched (λ d. (goal.Device-dyn g (d.vtable, d.value)).device_content d.value) (λ d. (goal.Device-dyn g (d.vtable, d.value)).device_block d.value) (λ d. (goal.Device-dyn g (d.vtable, d.value)).device_size d.value)
    (λ d. (goal.Device-dyn g (d.vtable, d.value)).device_faults d.value)
    (list_of (run_of g.C.Case g.N.Named)) c.args.plan.now g.F.Receipt.Telling.receipt_tells g.F.Receipt.Telling.told g.F.Peek.Peek.peek_faults (λ e. (goal.Examiner-dyn g (e.vtable, e.value)).rule e.value) (λ e. (goal.Examiner-dyn g (e.vtable, e.value)).text e.value) (λ e. (goal.Examiner-dyn g (e.vtable, e.value)).state e.value)
    c.post-tasks.result.items c.deref_mut.result.now c.run_tasks-book.new.tasks _ c.post-tasks.result.len c.args.examiners.items c.disband-devices.result.2.items c.deref_mut.ensures.value c.deref_mut.ensures.len c.run_tasks-book.ensures.count c.run_tasks-book.ensures.each
    c.post-tasks.ensures.examiners c.disband-devices.ensures.examinations in
    let end = c.close-end in
    let own = back_own g.F.Receipt.Telling.receipt_tells g.F.Receipt.Telling.told g.F.Peek.Peek.peek_faults (λ e. (goal.Examiner-dyn g (e.vtable, e.value)).rule e.value) (λ e. (goal.Examiner-dyn g (e.vtable, e.value)).text e.value) (λ e. (goal.Examiner-dyn g (e.vtable, e.value)).state e.value) c.args.plan.now (list_of (run_of g.C.Case g.N.Named)) c.args.examiners.items end.result.examiners.items c.disband-devices.result.2.items watched end.ensures.kept in
    done_examined g.F.Receipt.Telling.receipt_tells g.F.Receipt.Telling.told g.F.Peek.Peek.peek_faults (λ e. (goal.Examiner-dyn g (e.vtable, e.value)).rule e.value) (λ e. (goal.Examiner-dyn g (e.vtable, e.value)).text e.value) (λ e. (goal.Examiner-dyn g (e.vtable, e.value)).state e.value) c.args.plan.now (list_of (run_of g.C.Case g.N.Named)) g.C.Case.content g.F.Folder.tells (g.met.F.Folder g.world.𝓛 g.world.𝓜 g.world.𝓡 ((λ s x. x), (λ x. x), (λ x. x), λ x. x)).receipts_tell c.args.examiners.items end.result.examiners.items c.disband-devices.result.2.items watched own.count end.result.end end.ensures.examined
