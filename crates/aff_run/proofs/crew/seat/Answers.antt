use Rattle.std.proofs.Common.{◌≡◌, ◌+◌, ◌≤◌, ◌<◌, ◌∷◌, [], ◌++◌, length, sym, ap, subst, ◌∙◌, arith}
use Rattle.std.specs.Prelude.{All}
use Rattle.std.proofs.lemmas.Iterator.Adapters.{YieldsList-from_vec}
use Rattle.std.proofs.lemmas.Iterator.Consumers.{YieldsList-end}
use Rattle.std.proofs.lemmas.List.{length_push, map-id}
use Rattle.aff_run.proofs.Crews.{seated, seated_can, seated_devices, seated_examinations}
use Rattle.aff_run.proofs.crew.seat.Goals as goal

pub loop-session-preserved : goal.loop-session-preserved
loop-session-preserved g c =
    let i = c.loop-session.invariant in
    let longer = length_push c.loop-session.yielded c.in-Some.session in
    let tasks = c.loop-session.tasks.items in
    let news = c.push_reserved.new.self.items in
    let n = c.loop-session.number in
    let s = c.in-Some.session in
    let items = c.push_reserved.ensures.items in (
      omega (arith, longer, c.push_reserved.ensures.len, i.0),
      c.push_reserved.ensures.capacity ∙ i.1,
      omega (arith, longer, c.in-Some.ensures.steps.1, i.2),
      omega (arith, longer, i.3),
      seated_devices tasks news n s _ items i.4,
      seated tasks news n s c.loop-session.yielded items i.5,
      λ list claims workers plan can fresh.
          seated_can (λ d. (goal.Device-dyn g (d.vtable, d.value)).device_content d.value) (λ d. (goal.Device-dyn g (d.vtable, d.value)).device_block d.value) (λ d. (goal.Device-dyn g (d.vtable, d.value)).device_size d.value)
          list claims workers g.C.Case.content plan tasks news n s items (i.6 list claims workers plan can) fresh,
      seated_examinations tasks news n s _ items i.7,
    )

pub returns-clause-tasks : goal.returns-clause-tasks
returns-clause-tasks g c = λ list claims workers plan can fresh. c.loop-session.invariant.6 list claims workers plan can fresh

pub returns-clause-sessions : goal.returns-clause-sessions
returns-clause-sessions g c =
    let e = YieldsList-end (YieldsList-from_vec {s = c.into_iter-session-iterator.result} c.args.sessions.items (cc) (cc)) c.loop-session.yielded c.loop-session.session-iterator c.loop-session.yielded_by c.next.result c.next.new.self c.in-None.is c.next.ensures.steps in
    c.loop-session.invariant.5 ∙ (sym (map-id c.loop-session.yielded) ∙ e.0)
