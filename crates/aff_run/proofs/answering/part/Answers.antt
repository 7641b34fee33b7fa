use Rattle.std.proofs.Common.{◌≡◌, ◌+◌, ◌∷◌, [], ◌++◌, List, length, map, sym, ap, ◌∙◌, arith, Vec, Global}
use Rattle.std.proofs.lemmas.Iterator.Adapters.{YieldsList-from_vec}
use Rattle.std.proofs.lemmas.Iterator.Consumers.{YieldsList-end}
use Rattle.std.proofs.lemmas.List.{length_push, map-id}
use Rattle.aff_script.specs.Answered.{Answered}
use Rattle.aff_session.specs.Sittings.{Sitting}
use Rattle.aff_run.specs.Sessions.{first_fault, first_of}
use Rattle.aff_run.proofs.Replies.{first_push, pushed_behind, pushed_map}
use Rattle.aff_run.proofs.answering.part.Goals as goal

pub loop-session-preserved : goal.loop-session-preserved
loop-session-preserved g c =
    let i = c.loop-session.invariant in
    let s = c.in-Some.session in
    let done = c.loop-session.yielded in
    let longer = length_push done s in
    let e = c.into_parts-own.ensures in
    let a = c.push_reserved.ensures in
    let p = c.push_reserved-in-loop-session.ensures in
    record {
      answers_len = omega (arith, longer, a.len, i.answers_len);
      answers_room = a.capacity ∙ i.answers_room;
      peeks_len = omega (arith, longer, p.len, i.peeks_len);
      peeks_room = p.capacity ∙ i.peeks_room;
      left = omega (arith, longer, c.in-Some.ensures.steps.1, i.left);
      answers = pushed_map (λ (v : Vec Answered Global). v.items) (λ (s : Sitting g.row.F-Receipt.Denot g.row.F-Peek.Denot). s.answers) c.loop-session.answers.items c.push_reserved.new.self.items c.into_parts-own.result.answers done s a.items i.answers e.answers;
      peeks = pushed_behind (λ (s : Sitting g.row.F-Receipt.Denot g.row.F-Peek.Denot). s.peek) c.args.peeks.now.items c.loop-session.peeks.items c.push_reserved-in-loop-session.new.self.items c.into_parts-own.result.peek done s p.items i.peeks e.peek;
      fault = c.first_of-first.ensures ∙ (ap (λ f. first_of f c.into_parts-own.result.fault) i.fault ∙ (ap (λ f. first_of (first_fault done) f) e.fault ∙ sym (first_push done s)));
    }

pub returns-clause-answers : goal.returns-clause-answers
returns-clause-answers g c =
    let e = YieldsList-end (YieldsList-from_vec {s = c.into_iter-session-iterator.result} c.args.sessions.items (cc) (cc)) c.loop-session.yielded c.loop-session.session-iterator c.loop-session.yielded_by c.next.result c.next.new.self c.in-None.is c.next.ensures.steps in
    let all = sym (map-id c.loop-session.yielded) ∙ e.0 in
    c.loop-session.invariant.answers ∙ ap (map (λ (s : Sitting g.row.F-Receipt.Denot g.row.F-Peek.Denot). s.answers)) all

pub returns-clause-fault : goal.returns-clause-fault
returns-clause-fault g c =
    let e = YieldsList-end (YieldsList-from_vec {s = c.into_iter-session-iterator.result} c.args.sessions.items (cc) (cc)) c.loop-session.yielded c.loop-session.session-iterator c.loop-session.yielded_by c.next.result c.next.new.self c.in-None.is c.next.ensures.steps in
    let all = sym (map-id c.loop-session.yielded) ∙ e.0 in
    c.loop-session.invariant.fault ∙ ap first_fault all

pub returns-clause-peeks : goal.returns-clause-peeks
returns-clause-peeks g c =
    let e = YieldsList-end (YieldsList-from_vec {s = c.into_iter-session-iterator.result} c.args.sessions.items (cc) (cc)) c.loop-session.yielded c.loop-session.session-iterator c.loop-session.yielded_by c.next.result c.next.new.self c.in-None.is c.next.ensures.steps in
    let all = sym (map-id c.loop-session.yielded) ∙ e.0 in
    c.loop-session.invariant.peeks ∙ ap (λ (l : List (Sitting g.row.F-Receipt.Denot g.row.F-Peek.Denot)). c.args.peeks.now.items ++ map (λ s. s.peek) l) all

pub returns-clause-room : goal.returns-clause-room
returns-clause-room g c =
    let i = c.loop-session.invariant in
    (omega (arith, c.in-None.ensures.steps, i.peeks_len, i.left), i.peeks_room)
