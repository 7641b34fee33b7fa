use Rattle.std.proofs.Common.{◌≡◌, ◌+◌, ◌≤◌, ◌<◌, ◌∷◌, [], ◌++◌, length, map, refl, sym, ap, subst, ◌∙◌, arith}
use Rattle.std.specs.Prelude.{All}
use Rattle.std.proofs.lemmas.Iterator.Adapters.{YieldsList-from_vec}
use Rattle.std.proofs.lemmas.Iterator.Consumers.{YieldsList-end}
use Rattle.std.proofs.lemmas.List.{length_push, map-id}
use Rattle.std.proofs.lemmas.List.Elements.{All-head, All-tail}
use Rattle.aff_examine.specs.Following.{Following}
use Rattle.aff_run.specs.Examinations.{IsNew}
use Rattle.aff_run.proofs.Crews.{posted, posted_can, posted_devices, posted_sessions}
use Rattle.aff_run.proofs.Showing.{the_examiners}
use Rattle.aff_run.proofs.crew.post.Goals as goal

pub loop-examiner-init : goal.loop-examiner-init
loop-examiner-init g c = record {
  count = omega arith;
  room = refl;
  left = omega arith;
  followers = omega (arith, c.into_iter-followers.ensures.len, c.into_iter-examiner-iterator.ensures.into_iter_gives.1, c.requires.count);
  devices = refl;
  sessions = refl;
  examiners = ap the_examiners c.requires.none;
  new = λ list plan all. all;
  tasks = λ list claims workers plan can new. can;
}

pub loop-examiner-preserved : goal.loop-examiner-preserved
loop-examiner-preserved g c =
    let i = c.loop-examiner.invariant in
    let f = c.in-Some-next.follower in
    let next = c.in-Some-next.ensures in
    let longer = length_push c.loop-examiner.yielded c.in-Some.examiner in
    let p = c.push_reserved.ensures in
    let tasks = c.loop-examiner.tasks.items in
    let news = c.push_reserved.new.self.items in
    let rest = c.next-in-loop-examiner.new.self.rest.items in
    record {
      count = omega (arith, longer, p.len, i.count);
      room = p.capacity ∙ i.room;
      left = omega (arith, longer, c.in-Some.ensures.steps.1, i.left);
      followers = omega (arith, next.len, c.in-Some.ensures.steps.1, i.followers);
      devices = posted_devices tasks news _ _ p.items i.devices;
      sessions = posted_sessions tasks news _ _ p.items i.sessions;
      examiners = posted tasks news _ _ p.items i.examiners;
      new = λ list plan all. All-tail (λ (f : Following g.row.F-Receipt.Denot g.row.F-Peek.Denot). IsNew plan list f) f rest (subst (All (λ (f : Following g.row.F-Receipt.Denot g.row.F-Peek.Denot). IsNew plan list f)) next.items (i.new list plan all));
      tasks = λ list claims workers plan can all.
          posted_can (λ d. (goal.Device-dyn g (d.vtable, d.value)).device_content d.value) (λ d. (goal.Device-dyn g (d.vtable, d.value)).device_block d.value) (λ d. (goal.Device-dyn g (d.vtable, d.value)).device_size d.value) list claims workers g.C.Case.content plan tasks news _ p.items
          (All-head (λ (f : Following g.row.F-Receipt.Denot g.row.F-Peek.Denot). IsNew plan list f) f rest (subst (All (λ (f : Following g.row.F-Receipt.Denot g.row.F-Peek.Denot). IsNew plan list f)) next.items (i.new list plan all))) refl (i.tasks list claims workers plan can all);
    }

pub returns-clause-examiners : goal.returns-clause-examiners
returns-clause-examiners g c =
    let e = YieldsList-end (YieldsList-from_vec {s = c.into_iter-examiner-iterator.result} c.args.examiners.items (cc) (cc)) c.loop-examiner.yielded c.loop-examiner.examiner-iterator c.loop-examiner.yielded_by c.next.result c.next.new.self c.in-None.is c.next.ensures.steps in
    c.loop-examiner.invariant.examiners ∙ (sym (map-id c.loop-examiner.yielded) ∙ e.0)

pub returns-clause-tasks : goal.returns-clause-tasks
returns-clause-tasks g c = λ list claims workers plan can new.
    c.loop-examiner.invariant.tasks list claims workers plan can (subst (All (λ (f : Following g.row.F-Receipt.Denot g.row.F-Peek.Denot). IsNew plan list f)) (sym c.into_iter-followers.ensures.rest) new)
