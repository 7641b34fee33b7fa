use Rattle.std.proofs.Common.{◌≡◌, ◌≤◌, ◌<◌, ℕ, List, length, map, refl, sym, ap, subst, ◌∙◌, arith, inl, Err}
use Rattle.std.specs.Prelude.{All}
use Rattle.std.proofs.lemmas.List.{length-map}
use Rattle.aff_model.specs.Causes.{Rose}
use Rattle.aff_model.specs.Plan.{Planned}
use Rattle.aff_examine.specs.Following.{Following}
use Rattle.aff_session.specs.Sittings.{Sitting}
use Rattle.aff_run.specs.declared.crew.Kit.{Kit}
use Rattle.aff_run.specs.Examinations.{IsNew}
use Rattle.aff_run.specs.Sessions.{IsFresh}
use Rattle.aff_snapshot.specs.Lists.{ListName}
use Rattle.aff_run.specs.Ends.{HasFailed, Leaves, asked}
use Rattle.aff_run.proofs.Ends.{cut_off_empty}
use Rattle.aff_run.proofs.Keeping.{kept_same}
use Rattle.aff_run.proofs.Learning.{leaves_more, rose_from}
use Rattle.aff_run.proofs.Showing.{all_own}
use Rattle.aff_run.proofs.run.acquire.Goals as goal

pub returns-in-Err-Failed-clause-leaves : goal.returns-in-Err-Failed-clause-leaves
returns-in-Err-Failed-clause-leaves g c =
    inl (c.in-Err-Failed.ensures.cause.rose (ap Err c.in-Err-Failed.field-0-is), cut_off_empty g.C.Case.content g.F.Folder.tells (asked c.args.volume.now c.args.plan.now c.args.devices.len c.args.examiners.len) c.requires.plan _ (λ t. c.in-Err-Failed.ensures.same t ∙ c.requires.empty t))

pub returns-in-Err-Failed-clause-kept : goal.returns-in-Err-Failed-clause-kept
returns-in-Err-Failed-clause-kept g c = kept_same (λ d. (goal.Device-dyn g (d.vtable, d.value)).device_content d.value) (λ d. (goal.Device-dyn g (d.vtable, d.value)).device_block d.value) (λ d. (goal.Device-dyn g (d.vtable, d.value)).device_size d.value)
    (λ d. (goal.Device-dyn g (d.vtable, d.value)).device_faults d.value) c.args.devices.items

pub returns-in-Err-Failed-clause-own : goal.returns-in-Err-Failed-clause-own
returns-in-Err-Failed-clause-own g c = all_own (λ e. (goal.Examiner-dyn g (e.vtable, e.value)).rule e.value) (λ e. (goal.Examiner-dyn g (e.vtable, e.value)).text e.value) c.args.examiners.items

pub returns-in-Err-Memory-clause-leaves : goal.returns-in-Err-Memory-clause-leaves
returns-in-Err-Memory-clause-leaves g c =
    inl (cut_off_empty g.C.Case.content g.F.Folder.tells (asked c.args.volume.now c.args.plan.now c.args.devices.len c.args.examiners.len) c.requires.plan _ (λ t. c.in-Err-Memory.ensures.same t ∙ c.requires.empty t))

pub returns-in-Err-Memory-clause-kept : goal.returns-in-Err-Memory-clause-kept
returns-in-Err-Memory-clause-kept g c = kept_same (λ d. (goal.Device-dyn g (d.vtable, d.value)).device_content d.value) (λ d. (goal.Device-dyn g (d.vtable, d.value)).device_block d.value) (λ d. (goal.Device-dyn g (d.vtable, d.value)).device_size d.value)
    (λ d. (goal.Device-dyn g (d.vtable, d.value)).device_faults d.value) c.args.devices.items

pub returns-in-Err-Memory-clause-own : goal.returns-in-Err-Memory-clause-own
returns-in-Err-Memory-clause-own g c = all_own (λ e. (goal.Examiner-dyn g (e.vtable, e.value)).rule e.value) (λ e. (goal.Examiner-dyn g (e.vtable, e.value)).text e.value) c.args.examiners.items

pub returns-in-Err-clause-leaves : goal.returns-in-Err-clause-leaves
returns-in-Err-clause-leaves g c =
    inl (cut_off_empty g.C.Case.content g.F.Folder.tells (asked c.args.volume.now c.args.plan.now c.args.devices.len c.args.examiners.len) c.requires.plan _ (λ t. c.in-Ok.ensures.same t ∙ c.requires.empty t))

pub returns-in-Err-clause-kept : goal.returns-in-Err-clause-kept
returns-in-Err-clause-kept g c = kept_same (λ d. (goal.Device-dyn g (d.vtable, d.value)).device_content d.value) (λ d. (goal.Device-dyn g (d.vtable, d.value)).device_block d.value) (λ d. (goal.Device-dyn g (d.vtable, d.value)).device_size d.value)
    (λ d. (goal.Device-dyn g (d.vtable, d.value)).device_faults d.value) c.args.devices.items

pub returns-in-Err-clause-own : goal.returns-in-Err-clause-own
returns-in-Err-clause-own g c = all_own (λ e. (goal.Examiner-dyn g (e.vtable, e.value)).rule e.value) (λ e. (goal.Examiner-dyn g (e.vtable, e.value)).text e.value) c.args.examiners.items

pub returns-in-Ok-make-clause-leaves : goal.returns-in-Ok-make-clause-leaves
returns-in-Ok-make-clause-leaves g c =
    let ran = c.run_named in
    let held = g.F.Folder.held ran.result.folder in
    let now = g.F.Folder.folder_faults ran.result.folder in
    let peek = HasFailed g.F.Peek.Peek.peek_faults ran.result.peeks.items in
    let made = subst (λ (w : ℕ). Leaves g.C.Case.content g.F.Folder.tells g.F.Receipt.Telling.told (asked c.args.volume.now c.args.plan.now w c.args.examiners.len) (map (λ s. s.requests) c.in-Ok-make.made.sessions.items) held (Rose (g.F.Folder.folder_faults c.peeks.new.self) now) peek ran.result.end)
    (c.in-Ok-make.ensures.claims.1 ∙ c.len-workers.ensures) ran.ensures.leaves in
    leaves_more g.C.Case.content g.F.Folder.tells g.F.Receipt.Telling.told (asked c.args.volume.now c.args.plan.now c.args.devices.len c.args.examiners.len) _ c.args.script.now held (Rose (g.F.Folder.folder_faults c.peeks.new.self) now) (Rose (g.F.Folder.folder_faults c.args.folder) now) peek ran.result.end
    (λ r. rose_from _ _ _ c.in-Ok.ensures.cause.later r) c.in-Ok-make.ensures.script made

pub run_named-requires-clause-kits : goal.run_named-requires-clause-kits
run_named-requires-clause-kits g c κs within =
    let made = c.in-Ok-make.made in
    let m = c.in-Ok-make.ensures in
    (m.count ∙ sym m.claims.1, subst (λ (n : ℕ). All (λ (k : Kit). (k.pass.claims ≡ made.claims) × (k.pass.view.number < n)) made.kits.items) (sym m.claims.1) m.kits)

pub run_named-requires-clause-sessions : goal.run_named-requires-clause-sessions
run_named-requires-clause-sessions g c κs within =
    let made = c.in-Ok-make.made in
    let m = c.in-Ok-make.ensures in
    let same : made.publisher.list ≡ record { book = made.publisher.list.book; plan = c.args.plan.now } = ap (λ (p : Planned). record { book = made.publisher.list.book; plan = p }) m.list.0 in (
      omega (arith, ap length m.script, length-map made.sessions.items (λ (s : Sitting g.row.F-Receipt.Denot g.row.F-Peek.Denot). s.requests), c.requires.script.few, made.sessions.ok.0),
      subst (λ (l : ListName). All (λ (s : Sitting g.row.F-Receipt.Denot g.row.F-Peek.Denot). IsFresh c.args.plan.now made.claims l s) made.sessions.items) same m.sessions,
    )

pub run_named-requires-clause-followers : goal.run_named-requires-clause-followers
run_named-requires-clause-followers g c κs within =
    let made = c.in-Ok-make.made in
    let m = c.in-Ok-make.ensures in
    let same : made.publisher.list ≡ record { book = made.publisher.list.book; plan = c.args.plan.now } = ap (λ (p : Planned). record { book = made.publisher.list.book; plan = p }) m.list.0 in (
      c.requires.examiners,
      m.followers.0 ∙ c.len-3.ensures,
      subst (λ (l : ListName). All (λ (f : Following g.row.F-Receipt.Denot g.row.F-Peek.Denot). IsNew c.args.plan.now l f) made.followers.items) same m.followers.1,
    )

pub run_named-requires-clause-room : goal.run_named-requires-clause-room
run_named-requires-clause-room g c κs within =
    let made = c.in-Ok-make.made in
    let m = c.in-Ok-make.ensures in
    let sessions = ap length m.script in
    let count = length-map made.sessions.items (λ (s : Sitting g.row.F-Receipt.Denot g.row.F-Peek.Denot). s.requests) in
    let len = made.sessions.ok.0 in
    let lookers = c.len-3.ensures in (
      omega (arith, m.claims.1, sessions, count, len, lookers, m.room.0),
      omega (arith, m.claims.1, sessions, count, len, lookers, m.room.1),
      omega (arith, m.claims.1, sessions, count, len, lookers, m.room.2),
      omega (arith, m.claims.1, sessions, count, len, lookers, m.room.3),
      omega (arith, sessions, count, len, m.room.4),
      omega (arith, lookers, m.room.5),
      omega (arith, sessions, count, len, lookers, m.peeks.1),
    )
