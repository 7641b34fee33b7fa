use Rattle.std.proofs.Common.{◌≡◌, ◌+◌, ◌∷◌, [], ◌++◌, length, map, sym, ap, ◌∙◌, arith}
use Rattle.std.proofs.lemmas.Iterator.Adapters.{YieldsList-from_vec}
use Rattle.std.proofs.lemmas.Iterator.Consumers.{YieldsList-end}
use Rattle.std.proofs.lemmas.List.{length_push, map-id}
use Rattle.aff_run.specs.Examinations.{first_fault, first_of}
use Rattle.aff_run.proofs.Showing.{examiners_push, first_push, peeks_push, the_examiners, the_peeks}
use Rattle.aff_run.proofs.watching.dismiss.Goals as goal

pub loop-examination-preserved : goal.loop-examination-preserved
loop-examination-preserved g c =
    let i = c.loop-examination.invariant in
    let x = c.in-Some.examination in
    let done = c.loop-examination.yielded in
    let longer = length_push done x in
    let a = c.push_reserved.ensures in
    let p = c.push_reserved-in-loop-examination.ensures in
    record {
      examiners_len = omega (arith, longer, a.len, i.examiners_len);
      examiners_room = a.capacity ∙ i.examiners_room;
      peeks_len = omega (arith, longer, p.len, i.peeks_len);
      peeks_room = p.capacity ∙ i.peeks_room;
      left = omega (arith, longer, c.in-Some.ensures.steps.1, i.left);
      examiners = examiners_push c.loop-examination.examiners.items c.push_reserved.new.self.items done x a.items i.examiners;
      peeks = peeks_push c.args.peeks.now.items c.loop-examination.peeks.items c.push_reserved-in-loop-examination.new.self.items done x c.into_peek.result p.items i.peeks c.into_peek.ensures;
      fault = c.first_of-first.ensures ∙ (ap (λ f. first_of f x.fault) i.fault ∙ sym (first_push done x));
    }

pub returns-clause-examiners : goal.returns-clause-examiners
returns-clause-examiners g c =
    let e = YieldsList-end (YieldsList-from_vec {s = c.into_iter-examination-iterator.result} c.args.examinations.items (cc) (cc)) c.loop-examination.yielded c.loop-examination.examination-iterator c.loop-examination.yielded_by c.next.result c.next.new.self c.in-None.is c.next.ensures.steps in
    let all = sym (map-id c.loop-examination.yielded) ∙ e.0 in
    c.loop-examination.invariant.examiners ∙ ap the_examiners all

pub returns-clause-fault : goal.returns-clause-fault
returns-clause-fault g c =
    let e = YieldsList-end (YieldsList-from_vec {s = c.into_iter-examination-iterator.result} c.args.examinations.items (cc) (cc)) c.loop-examination.yielded c.loop-examination.examination-iterator c.loop-examination.yielded_by c.next.result c.next.new.self c.in-None.is c.next.ensures.steps in
    let all = sym (map-id c.loop-examination.yielded) ∙ e.0 in
    c.loop-examination.invariant.fault ∙ ap first_fault all

pub returns-clause-peeks : goal.returns-clause-peeks
returns-clause-peeks g c =
    let e = YieldsList-end (YieldsList-from_vec {s = c.into_iter-examination-iterator.result} c.args.examinations.items (cc) (cc)) c.loop-examination.yielded c.loop-examination.examination-iterator c.loop-examination.yielded_by c.next.result c.next.new.self c.in-None.is c.next.ensures.steps in
    let all = sym (map-id c.loop-examination.yielded) ∙ e.0 in
    c.loop-examination.invariant.peeks ∙ ap (λ l. c.args.peeks.now.items ++ the_peeks l) all
