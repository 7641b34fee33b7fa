use Rattle.std.proofs.Common.{◌≡◌, ◌+◌, ◌≤◌, ◌∷◌, [], ◌++◌, length, sym, ap, ◌∙◌, arith}
use Rattle.std.proofs.lemmas.Iterator.Adapters.{YieldsList-from_vec}
use Rattle.std.proofs.lemmas.Iterator.Consumers.{YieldsList-end}
use Rattle.std.proofs.lemmas.List.{length_push, map-id}
use Rattle.aff_run.specs.Tasks.{device_in, devices_of, examinations_of, sessions_of}
use Rattle.aff_run.proofs.Crews.{devices_more, devices_same, devices_watch, examinations_look, examinations_more, examinations_work, sessions_more, sessions_same, sessions_watch}
use Rattle.aff_run.proofs.crew.disband.Goals as goal

pub loop-task-preserved-in-Work : goal.loop-task-preserved-in-Work
loop-task-preserved-in-Work g c =
    let i = c.loop-task.invariant in
    let longer = length_push c.loop-task.yielded c.in-Some.task in
    let e = c.release.ensures in (
      omega (arith, longer, e.len, i.0),
      omega (arith, longer, e.room, c.in-Some.ensures.steps.1, i.1),
      e.items ∙ (ap (λ l. l ++ device_in c.in-Work.job) i.2 ∙ sym (devices_more c.loop-task.yielded c.in-Some.task c.in-Work.job c.in-Work.is)),
      omega (arith, longer, i.3),
      omega (arith, longer, c.in-Some.ensures.steps.1, i.4),
      i.5 ∙ sym (sessions_same c.loop-task.yielded c.in-Some.task c.in-Work.job c.in-Work.is),
      omega (arith, longer, i.6),
      omega (arith, longer, c.in-Some.ensures.steps.1, i.7),
      i.8 ∙ sym (examinations_work c.loop-task.yielded c.in-Some.task c.in-Work.job c.in-Work.is),
    )

pub loop-task-preserved-in-Look : goal.loop-task-preserved-in-Look
loop-task-preserved-in-Look g c =
    let i = c.loop-task.invariant in
    let longer = length_push c.loop-task.yielded c.in-Some.task in
    let e = c.push_reserved.ensures in (
      omega (arith, longer, i.0),
      omega (arith, longer, c.in-Some.ensures.steps.1, i.1),
      i.2 ∙ sym (devices_same c.loop-task.yielded c.in-Some.task _ c.in-Look.session c.in-Look.is),
      omega (arith, longer, e.len, i.3),
      omega (arith, longer, e.capacity, c.in-Some.ensures.steps.1, i.4),
      e.items ∙ (ap (λ l. l ++ c.in-Look.session ∷ []) i.5 ∙ sym (sessions_more c.loop-task.yielded c.in-Some.task _ c.in-Look.session c.in-Look.is)),
      omega (arith, longer, i.6),
      omega (arith, longer, c.in-Some.ensures.steps.1, i.7),
      i.8 ∙ sym (examinations_look c.loop-task.yielded c.in-Some.task _ c.in-Look.session c.in-Look.is),
    )

pub loop-task-preserved : goal.loop-task-preserved
loop-task-preserved g c =
    let i = c.loop-task.invariant in
    let longer = length_push c.loop-task.yielded c.in-Some.task in
    let x = c.in-Watch.examination in
    let e = c.push_reserved-in-Watch.ensures in (
      omega (arith, longer, i.0),
      omega (arith, longer, c.in-Some.ensures.steps.1, i.1),
      i.2 ∙ sym (devices_watch c.loop-task.yielded c.in-Some.task x c.in-Watch.is),
      omega (arith, longer, i.3),
      omega (arith, longer, c.in-Some.ensures.steps.1, i.4),
      i.5 ∙ sym (sessions_watch c.loop-task.yielded c.in-Some.task x c.in-Watch.is),
      omega (arith, longer, e.len, i.6),
      omega (arith, longer, e.capacity, c.in-Some.ensures.steps.1, i.7),
      e.items ∙ (ap (λ l. l ++ x ∷ []) i.8 ∙ sym (examinations_more c.loop-task.yielded c.in-Some.task x c.in-Watch.is)),
    )

pub returns-clause-devices : goal.returns-clause-devices
returns-clause-devices g c =
    let e = YieldsList-end (YieldsList-from_vec {s = c.into_iter-task-iterator.result} c.args.tasks.items (cc) (cc)) c.loop-task.yielded c.loop-task.task-iterator c.loop-task.yielded_by c.next.result c.next.new.self c.in-None.is c.next.ensures.steps in
    c.loop-task.invariant.2 ∙ ap devices_of (sym (map-id c.loop-task.yielded) ∙ e.0)

pub returns-clause-sessions : goal.returns-clause-sessions
returns-clause-sessions g c =
    let e = YieldsList-end (YieldsList-from_vec {s = c.into_iter-task-iterator.result} c.args.tasks.items (cc) (cc)) c.loop-task.yielded c.loop-task.task-iterator c.loop-task.yielded_by c.next.result c.next.new.self c.in-None.is c.next.ensures.steps in
    c.loop-task.invariant.5 ∙ ap sessions_of (sym (map-id c.loop-task.yielded) ∙ e.0)

pub returns-clause-examinations : goal.returns-clause-examinations
returns-clause-examinations g c =
    let e = YieldsList-end (YieldsList-from_vec {s = c.into_iter-task-iterator.result} c.args.tasks.items (cc) (cc)) c.loop-task.yielded c.loop-task.task-iterator c.loop-task.yielded_by c.next.result c.next.new.self c.in-None.is c.next.ensures.steps in
    c.loop-task.invariant.8 ∙ ap examinations_of (sym (map-id c.loop-task.yielded) ∙ e.0)
