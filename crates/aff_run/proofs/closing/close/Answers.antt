use Rattle.std.proofs.Common.{◌≡◌, ℕ, ◌<◌, ◌≤◌, true, false, List, ◌++◌, length, map, refl, sym, ap, subst, ◌∙◌, arith, rules, inl, inr, Ok, Err, Vec, Global}
use Rattle.std.specs.Prelude.{All, Bool, IfErr, IfOk, IfSome}
use Rattle.std.specs.Arc.{arc_value}
use Rattle.aff_model.specs.Causes.{Rose}
use Rattle.aff_model.specs.Held.{Held}
use Rattle.aff_model.specs.History.{Part, publication_of}
use Rattle.aff_model.specs.Legal.{IsComplete}
use Rattle.aff_model.specs.Pieces.{published}
use Rattle.aff_model.specs.Plan.{Planned}
use Rattle.aff_image.specs.Sound.{AreSound}
use Rattle.aff_book.specs.Pages.{Pages, list_of, run_of}
use Rattle.aff_script.specs.Answered.{Answered}
use Rattle.aff_session.specs.Sittings.{Sitting}
use Rattle.aff_snapshot.specs.Lists.{HasEvery}
use Rattle.aff_run.specs.Ends.{AreStored, HasFailed, IsCutOff, IsWhole, asked}
use Rattle.aff_run.specs.Examinations.{CanBeShown}
use Rattle.aff_run.specs.Examiners.{AreTheirOwn}
use Rattle.aff_run.specs.Sessions.{HasLived, IsReady}
use Rattle.aff_run.proofs.Closings.{answers_for, follow_for, sound_here, unfinished_done, unfinished_leaves}
use Rattle.aff_run.proofs.Ends.{complete_book, cut_off_book, cut_off_for, published_all, stored_book, whole_for}
use Rattle.aff_run.proofs.Learning.{all_planned, all_ready, asked_same, giving, leaves_more, rose_from}
use Rattle.aff_run.proofs.Replies.{cause_if}
use Rattle.aff_run.proofs.Showing.{all_caused, all_inside, caused_at, done_gone_on, kept_all, the_examiners, the_peeks}
use Rattle.aff_run.proofs.Showing as showing
use Rattle.aff_run.proofs.closing.close.Goals as goal
use Rattle.aff_run.proofs.closing.close.Goals.{then-whole, else-whole}

pub learn_all-requires-clause-list : goal.learn_all-requires-clause-list
learn_all-requires-clause-list g c κs within = λ k d below. (subst (All (λ (s : Sitting g.row.F-Receipt.Denot g.row.F-Peek.Denot). HasLived c.args.plan.now (list_of (run_of g.C.Case g.N.Named)) g.F.Receipt.Telling.receipt_tells g.F.Receipt.Telling.told g.F.Peek.Peek.peek_faults s)) (sym c.deref_mut.ensures.value) c.requires.sessions k d below).list_is

pub tell_all-requires-clause-list : goal.tell_all-requires-clause-list
tell_all-requires-clause-list g c κs within = λ k d below. (c.requires.examinations k d below).list_is

pub show_rest-requires-clause-inside : goal.show_rest-requires-clause-inside
show_rest-requires-clause-inside g c κs within = all_inside g.F.Receipt.Telling.receipt_tells g.F.Receipt.Telling.told g.F.Peek.Peek.peek_faults (λ e. (goal.Examiner-dyn g (e.vtable, e.value)).rule e.value) (λ e. (goal.Examiner-dyn g (e.vtable, e.value)).text e.value) (λ e. (goal.Examiner-dyn g (e.vtable, e.value)).state e.value) c.args.plan.now (list_of (run_of g.C.Case g.N.Named)) c.learn_all.new.book.pieces c.args.onlookers.examinations.items c.tell_all.new.examinations.items (omega (arith, c.tell_all.ensures.count, c.args.onlookers.examinations.ok.0, c.tell_all.new.examinations.ok.0)) c.tell_all.ensures.each c.requires.examinations

pub show_rest-requires-clause-ready : goal.show_rest-requires-clause-ready
show_rest-requires-clause-ready g c κs within = λ whole.
    let run = run_of g.C.Case g.N.Named in
    let e = c.into_parts-folder.ensures in
    let now = c.learn_all.new.book.pieces in
    let still : c.args.book.pieces ≡ now = sym (ap (λ (b : Pages g.row.F-Receipt.Denot). b.pieces) c.learn_all.ensures.same) in
    let kept : now ≡ c.tell_all.new.book.pieces = sym (ap (λ (b : Pages g.row.F-Receipt.Denot). b.pieces) c.tell_all.ensures.same) in
    let same : map arc_value c.deref.result.now ≡ now = ap (map arc_value) c.deref.ensures.value ∙ (e.pieces ∙ sym kept) in
    let every : HasEvery c.args.plan.now now = subst (λ ps. HasEvery c.args.plan.now ps) still (c.requires.whole whole) in
    let sound : AreSound run.case c.args.plan.now g.F.Receipt.Telling.receipt_tells g.F.Receipt.Telling.told now =
    sound_here run g.F.Folder.tells g.F.Receipt.Telling.receipt_tells (g.met.F.Folder g.world.𝓛 g.world.𝓜 g.world.𝓡 ((λ s x. x), (λ x. x), (λ x. x), λ x. x)).receipts_tell g.F.Receipt.Telling.told c.tell_all.new.book e.rule c.args.plan.now c.requires.plan now kept in
    subst (λ (ps : List (Part g.row.F-Receipt.Denot)). All (CanBeShown g.C.Case.content g.F.Receipt.Telling.receipt_tells g.F.Receipt.Telling.told g.F.Peek.Peek.peek_faults ps) c.tell_all.new.examinations.items) (sym same)
    (showing.all_ready g.F.Receipt.Telling.receipt_tells g.F.Receipt.Telling.told g.F.Peek.Peek.peek_faults (λ e. (goal.Examiner-dyn g (e.vtable, e.value)).rule e.value) (λ e. (goal.Examiner-dyn g (e.vtable, e.value)).text e.value) (λ e. (goal.Examiner-dyn g (e.vtable, e.value)).state e.value) c.args.plan.now (list_of (run_of g.C.Case g.N.Named)) c.learn_all.new.book.pieces c.args.onlookers.examinations.items c.tell_all.new.examinations.items (omega (arith, c.tell_all.ensures.count, c.args.onlookers.examinations.ok.0, c.tell_all.new.examinations.ok.0)) c.tell_all.ensures.each c.requires.examinations g.C.Case.content every sound)

pub finish_all-requires-clause-stopped : goal.finish_all-requires-clause-stopped
finish_all-requires-clause-stopped g c κs within = λ is.
    let e = c.into_parts-folder.ensures in
    subst (Rose g.N.Named.run_opened) (sym e.folder.1) (e.rule.stopped (sym e.flags.0 ∙ is))

pub finish_all-requires-clause-later : goal.finish_all-requires-clause-later
finish_all-requires-clause-later g c κs within =
    let e = c.into_parts-folder.ensures in
    omega (arith, e.rule.faults, e.folder.1)

pub finish_all-requires-clause-cut_off : goal.finish_all-requires-clause-cut_off
finish_all-requires-clause-cut_off g c κs within =
    let run = run_of g.C.Case g.N.Named in
    let tells = g.F.Folder.tells in
    let parts = c.into_parts-folder in
    subst (λ v. IsCutOff run.case tells (asked v c.args.plan.now run.workers 0) (g.F.Folder.held parts.result.folder)) (sym c.requires.volume)
    (subst (λ (p : Planned). IsCutOff run.case tells (asked run.volume p run.workers 0) (g.F.Folder.held parts.result.folder)) (sym c.requires.plan)
    (subst (λ (h : Held). IsCutOff run.case tells (asked run.volume run.plan run.workers 0) h) (sym parts.ensures.folder.0)
    (cut_off_book run tells g.F.Receipt.Telling.told c.tell_all.new.book parts.ensures.rule)))

pub finish_all-requires-clause-stored : goal.finish_all-requires-clause-stored
finish_all-requires-clause-stored g c κs within = λ on all.
    let run = run_of g.C.Case g.N.Named in
    let tells = g.F.Folder.tells in
    let parts = c.into_parts-folder in
    let e = parts.ensures in
    let book = c.tell_all.new.book in
    let held = g.F.Folder.held parts.result.folder in
    let history = map published c.deref-2.result.now in
    let still : book.stopped ≡ false = sym e.flags.0 ∙ on in
    let memory : book.memory ≡ false = sym e.flags.1 ∙ search rules in
    let same : history ≡ map publication_of book.pieces = ap (map published) c.deref-2.ensures.value ∙ (published_all parts.result.pieces.items ∙ ap (map publication_of) e.pieces) in
    let stored = stored_book run tells g.F.Receipt.Telling.told book e.rule (record { folder = still; memory = memory }) in
    subst (λ v. AreStored run.case tells (asked v c.args.plan.now run.workers 0) held parts.result.stream history) (sym c.requires.volume)
    (subst (λ (p : Planned). AreStored run.case tells (asked run.volume p run.workers 0) held parts.result.stream history) (sym c.requires.plan)
    (subst (λ (h : Held). AreStored run.case tells (asked run.volume run.plan run.workers 0) h parts.result.stream history) (sym e.folder.0)
    (subst (λ s. AreStored run.case tells (asked run.volume run.plan run.workers 0) book.held s history) (sym e.stream)
    (subst (λ h. AreStored run.case tells (asked run.volume run.plan run.workers 0) book.held book.stream h) (sym same) stored))))

pub finish_all-requires-clause-complete : goal.finish_all-requires-clause-complete
finish_all-requires-clause-complete g c κs within = λ all.
    let run = run_of g.C.Case g.N.Named in
    let tells = g.F.Folder.tells in
    let parts = c.into_parts-folder in
    let e = parts.ensures in
    let book = c.tell_all.new.book in
    let history = map published c.deref-2.result.now in
    let whole : c.args.whole ≡ true = search rules in
    let still : c.args.book.pieces ≡ book.pieces = sym (ap (λ (b : Pages g.row.F-Receipt.Denot). b.pieces) (c.tell_all.ensures.same ∙ c.learn_all.ensures.same)) in
    let same : history ≡ map publication_of book.pieces = ap (map published) c.deref-2.ensures.value ∙ (published_all parts.result.pieces.items ∙ ap (map publication_of) e.pieces) in
    let plan = ap (λ (p : Planned). length p.extents) c.requires.plan in
    let every = subst (λ ps. HasEvery c.args.plan.now ps) still (c.requires.whole whole) in
    let whole_list = complete_book run tells g.F.Receipt.Telling.told book e.rule (λ k below. every k (omega (arith, below, plan))) in
    subst (λ (p : Planned). IsComplete p.extents history) (sym c.requires.plan) (subst (λ h. IsComplete run.plan.extents h) (sym same) whole_list)

pub answer_all-answered-requires-clause-ready : goal.answer_all-answered-requires-clause-ready
answer_all-answered-requires-clause-ready g c κs within =
    let run = run_of g.C.Case g.N.Named in
    let tells = g.F.Receipt.Telling.receipt_tells in
    let told = g.F.Receipt.Telling.told in
    let faults = g.F.Peek.Peek.peek_faults in
    let parts = c.into_parts-folder in
    let e = parts.ensures in
    let learn = c.learn_all in
    let whole : c.args.whole ≡ true = elim c.if-whole.branch [ then-whole w ↦ w.if-whole.true | else-whole w ↦ sym w.all-is ∙ c.in-Ok.ensures.all ] in
    let still : c.args.book.pieces ≡ c.tell_all.new.book.pieces = sym (ap (λ (b : Pages g.row.F-Receipt.Denot). b.pieces) (c.tell_all.ensures.same ∙ learn.ensures.same)) in
    let same : map arc_value c.deref-in-Ok.result.now ≡ c.args.book.pieces = ap (map arc_value) c.deref-in-Ok.ensures.value ∙ (e.pieces ∙ sym still) in
    let sound : AreSound run.case c.args.plan.now tells told c.args.book.pieces = sound_here run g.F.Folder.tells tells (g.met.F.Folder g.world.𝓛 g.world.𝓜 g.world.𝓡 ((λ s x. x), (λ x. x), (λ x. x), λ x. x)).receipts_tell told c.tell_all.new.book e.rule c.args.plan.now c.requires.plan c.args.book.pieces still in
    let ready = all_ready run.case tells told faults c.args.plan.now (list_of run) c.args.book.pieces c.args.onlookers.sessions.items c.deref_mut.result.now learn.new.sessions c.deref_mut.ensures.value learn.ensures.count learn.ensures.each c.requires.sessions (c.requires.whole whole) sound in
    giving learn.new.sessions _ c.args.onlookers.sessions.len (learn.ensures.count ∙ c.deref_mut.ensures.len) (All (IsReady run.case tells told faults (map arc_value c.deref-in-Ok.result.now)))
    (subst (λ ps. All (IsReady run.case tells told faults ps) learn.new.sessions) (sym same) ready)

pub returns-in-Ok-clause-leaves : goal.returns-in-Ok-clause-leaves
returns-in-Ok-clause-leaves g c =
    let run = run_of g.C.Case g.N.Named in
    let tells = g.F.Folder.tells in
    let shown = g.F.Receipt.Telling.receipt_tells in
    let law : shown ≡ tells = (g.met.F.Folder g.world.𝓛 g.world.𝓜 g.world.𝓡 ((λ s x. x), (λ x. x), (λ x. x), λ x. x)).receipts_tell in
    let told = g.F.Receipt.Telling.told in
    let faults = g.F.Peek.Peek.peek_faults in
    let parts = c.into_parts-folder in
    let learn = c.learn_all in
    let back = c.answer_all-answered in
    let gone = c.dismiss-examiners in
    let held = g.F.Folder.held c.finish_all.new.folder in
    let count = c.args.onlookers.examinations.len in
    let ask = asked c.args.volume.now c.args.plan.now run.workers count in
    let whole : c.args.whole ≡ true = elim c.if-whole.branch [ then-whole w ↦ w.if-whole.true | else-whole w ↦ sym w.all-is ∙ c.in-Ok.ensures.all ] in
    let same : map arc_value c.deref.result.now ≡ c.learn_all.new.book.pieces = ap (map arc_value) c.deref.ensures.value ∙ (parts.ensures.pieces ∙ ap (λ (b : Pages g.row.F-Receipt.Denot). b.pieces) c.tell_all.ensures.same) in
    let pieces = map arc_value parts.result.pieces.items in
    let len = learn.ensures.count ∙ c.deref_mut.ensures.len in
    let planned = giving learn.new.sessions _ c.args.onlookers.sessions.len len (All (λ (s : Sitting g.row.F-Receipt.Denot g.row.F-Peek.Denot). s.plan ≡ ask.plan))
    (all_planned shown told faults c.args.plan.now (list_of run) c.args.book.pieces c.args.onlookers.sessions.items c.deref_mut.result.now learn.new.sessions c.deref_mut.ensures.value learn.ensures.count learn.ensures.each c.requires.sessions) in
    let asks = giving learn.new.sessions _ c.args.onlookers.sessions.len len (λ (l : List (Sitting g.row.F-Receipt.Denot g.row.F-Peek.Denot)). map (λ s. s.requests) l ≡ map (λ s. s.requests) c.args.onlookers.sessions.items)
    (asked_same c.args.book.pieces c.args.onlookers.sessions.items c.deref_mut.result.now learn.new.sessions c.deref_mut.ensures.value learn.ensures.count learn.ensures.each) in
    let sound : AreSound run.case c.args.plan.now tells told pieces = sound_here run tells tells refl told c.tell_all.new.book parts.ensures.rule c.args.plan.now c.requires.plan pieces parts.ensures.pieces in
    let finished = whole_for run.case tells c.args.volume.now c.args.plan.now run.workers 0 count held (map published parts.result.pieces.items) c.in-Ok.hashes
    (subst (λ ps. IsWhole run.case tells (asked c.args.volume.now c.args.plan.now run.workers 0) held (map published ps) c.in-Ok.hashes) c.deref-2.ensures.value c.in-Ok.ensures.whole) in
    let answers = answers_for (λ (a : Vec (Vec Answered Global) Global). map (λ (v : Vec Answered Global). v.items) a.items) shown tells law told (map arc_value c.deref-in-Ok.result.now) pieces (ap (map arc_value) c.deref-in-Ok.ensures.value) _
    (λ (p : Planned). All (λ (s : Sitting g.row.F-Receipt.Denot g.row.F-Peek.Denot). s.plan ≡ p) _) ask.plan planned back.result back.ensures.answers in
    let caused = cause_if tells shown law faults back.new.peeks.items (the_peeks c.show_rest.new.examinations.items) gone.new.peeks.items gone.ensures.peeks back.result back.ensures.fault in
    let follow = follow_for shown tells law (HasFailed faults gone.new.peeks.items) gone.result.1
    (caused_at shown faults c.show_rest.new.examinations.items gone.new.peeks.items back.new.peeks.items (all_caused g.F.Receipt.Telling.receipt_tells g.F.Receipt.Telling.told g.F.Peek.Peek.peek_faults (λ e. (goal.Examiner-dyn g (e.vtable, e.value)).rule e.value) (λ e. (goal.Examiner-dyn g (e.vtable, e.value)).text e.value) (λ e. (goal.Examiner-dyn g (e.vtable, e.value)).state e.value) c.args.plan.now (list_of (run_of g.C.Case g.N.Named)) c.learn_all.new.book.pieces c.args.onlookers.examinations.items c.tell_all.new.examinations.items (omega (arith, c.tell_all.ensures.count, c.args.onlookers.examinations.ok.0, c.tell_all.new.examinations.ok.0)) c.tell_all.ensures.each c.requires.examinations c.show_rest.new.examinations.items (omega (arith, c.show_rest.ensures.count, c.tell_all.new.examinations.ok.0, c.show_rest.new.examinations.ok.0)) (map arc_value c.deref.result.now) same (c.show_rest.ensures.shown whole)) gone.ensures.peeks gone.result.1 (sym gone.ensures.fault)) in
    leaves_more run.case tells told ask _ _ held ⊥ _ (HasFailed faults gone.new.peeks.items) c.end_of-end.result (λ no. absurd no) asks
    (c.end_of-end.ensures.leaves ask _ held gone.new.peeks.items sound finished answers caused follow)

pub returns-in-Ok-clause-examined : goal.returns-in-Ok-clause-examined
returns-in-Ok-clause-examined g c =
    let run = run_of g.C.Case g.N.Named in
    let e = c.into_parts-folder.ensures in
    let gone = c.dismiss-examiners in
    let now = c.learn_all.new.book.pieces in
    let whole : c.args.whole ≡ true = elim c.if-whole.branch [ then-whole w ↦ w.if-whole.true | else-whole w ↦ sym w.all-is ∙ c.in-Ok.ensures.all ] in
    let kept : now ≡ c.tell_all.new.book.pieces = sym (ap (λ (b : Pages g.row.F-Receipt.Denot). b.pieces) c.tell_all.ensures.same) in
    let sound : AreSound run.case c.args.plan.now g.F.Receipt.Telling.receipt_tells g.F.Receipt.Telling.told now =
    sound_here run g.F.Folder.tells g.F.Receipt.Telling.receipt_tells (g.met.F.Folder g.world.𝓛 g.world.𝓜 g.world.𝓡 ((λ s x. x), (λ x. x), (λ x. x), λ x. x)).receipts_tell g.F.Receipt.Telling.told c.tell_all.new.book e.rule c.args.plan.now c.requires.plan now kept in
    let same : map arc_value c.deref.result.now ≡ now = ap (map arc_value) c.deref.ensures.value ∙ (e.pieces ∙ sym kept) in
    done_gone_on g.F.Receipt.Telling.receipt_tells g.F.Receipt.Telling.told g.F.Peek.Peek.peek_faults (λ e. (goal.Examiner-dyn g (e.vtable, e.value)).rule e.value) (λ e. (goal.Examiner-dyn g (e.vtable, e.value)).text e.value) (λ e. (goal.Examiner-dyn g (e.vtable, e.value)).state e.value) c.args.plan.now (list_of (run_of g.C.Case g.N.Named)) c.learn_all.new.book.pieces c.args.onlookers.examinations.items c.tell_all.new.examinations.items (omega (arith, c.tell_all.ensures.count, c.args.onlookers.examinations.ok.0, c.tell_all.new.examinations.ok.0)) c.tell_all.ensures.each c.requires.examinations c.show_rest.new.examinations.items (omega (arith, c.show_rest.ensures.count, c.tell_all.new.examinations.ok.0, c.show_rest.new.examinations.ok.0)) (map arc_value c.deref.result.now) same (c.show_rest.ensures.shown whole) g.C.Case.content sound c.into_parts-folder.result.pieces (e.pieces ∙ sym kept) gone.result.0.items gone.ensures.examiners c.deref-in-Ok-2.result.now c.deref-in-Ok-2.ensures.value gone.result.1 gone.ensures.fault c.end_of-end.result c.end_of-end.ensures.done

pub returns-in-Ok-clause-kept : goal.returns-in-Ok-clause-kept
returns-in-Ok-clause-kept g c =
    subst (AreTheirOwn (λ e. (goal.Examiner-dyn g (e.vtable, e.value)).rule e.value) (λ e. (goal.Examiner-dyn g (e.vtable, e.value)).text e.value) (the_examiners c.args.onlookers.examinations.items)) (sym c.dismiss-examiners.ensures.examiners)
    (kept_all g.F.Receipt.Telling.receipt_tells g.F.Receipt.Telling.told g.F.Peek.Peek.peek_faults (λ e. (goal.Examiner-dyn g (e.vtable, e.value)).rule e.value) (λ e. (goal.Examiner-dyn g (e.vtable, e.value)).text e.value) (λ e. (goal.Examiner-dyn g (e.vtable, e.value)).state e.value) c.args.plan.now (list_of (run_of g.C.Case g.N.Named)) c.learn_all.new.book.pieces c.args.onlookers.examinations.items c.tell_all.new.examinations.items (omega (arith, c.tell_all.ensures.count, c.args.onlookers.examinations.ok.0, c.tell_all.new.examinations.ok.0)) c.tell_all.ensures.each c.requires.examinations c.show_rest.new.examinations.items (omega (arith, c.show_rest.ensures.count, c.tell_all.new.examinations.ok.0, c.show_rest.new.examinations.ok.0)) c.show_rest.ensures.kept)

pub returns-in-Err-clause-leaves : goal.returns-in-Err-clause-leaves
returns-in-Err-clause-leaves g c =
    let run = run_of g.C.Case g.N.Named in
    let end = c.unfinished in
    let held = g.F.Folder.held c.finish_all.new.folder in
    unfinished_leaves run.case g.F.Folder.tells g.F.Receipt.Telling.told (asked c.args.volume.now c.args.plan.now run.workers c.args.onlookers.examinations.len) _ held _ _ c.in-Err.error end.result end.ensures.failed end.ensures.memory
    (λ is. c.finish_all.ensures.cause (c.in-Err.is ∙ ap Err is)) (cut_off_for run.case g.F.Folder.tells c.args.volume.now c.args.plan.now run.workers 0 c.args.onlookers.examinations.len held c.in-Err.ensures.cut_off)

pub returns-in-Err-clause-examined : goal.returns-in-Err-clause-examined
returns-in-Err-clause-examined g c = unfinished_done _ c.in-Err.error c.unfinished.result c.unfinished.ensures.failed c.unfinished.ensures.memory

pub returns-in-Err-clause-kept : goal.returns-in-Err-clause-kept
returns-in-Err-clause-kept g c =
    subst (AreTheirOwn (λ e. (goal.Examiner-dyn g (e.vtable, e.value)).rule e.value) (λ e. (goal.Examiner-dyn g (e.vtable, e.value)).text e.value) (the_examiners c.args.onlookers.examinations.items)) (sym c.dismiss-examiners-in-Err.ensures.examiners)
    (kept_all g.F.Receipt.Telling.receipt_tells g.F.Receipt.Telling.told g.F.Peek.Peek.peek_faults (λ e. (goal.Examiner-dyn g (e.vtable, e.value)).rule e.value) (λ e. (goal.Examiner-dyn g (e.vtable, e.value)).text e.value) (λ e. (goal.Examiner-dyn g (e.vtable, e.value)).state e.value) c.args.plan.now (list_of (run_of g.C.Case g.N.Named)) c.learn_all.new.book.pieces c.args.onlookers.examinations.items c.tell_all.new.examinations.items (omega (arith, c.tell_all.ensures.count, c.args.onlookers.examinations.ok.0, c.tell_all.new.examinations.ok.0)) c.tell_all.ensures.each c.requires.examinations c.show_rest.new.examinations.items (omega (arith, c.show_rest.ensures.count, c.tell_all.new.examinations.ok.0, c.show_rest.new.examinations.ok.0)) c.show_rest.ensures.kept)
