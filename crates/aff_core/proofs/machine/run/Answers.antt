use Rattle.std.proofs.Common.{arith, rules, inl, ap, sym, ◌∙◌, Err, ℕ, subst, length, take}
use Rattle.std.proofs.lemmas.List.{length_push}
use Rattle.std.proofs.lemmas.List.FromFn.{length-enumerate_from}
use Rattle.std.proofs.lemmas.Iterator.Adapters.{YieldsList-from_vec}
use Rattle.std.proofs.lemmas.Iterator.Consumers.{YieldsList-from_enumerate, YieldsList-end, YieldsList-turn}
use Rattle.aff_core.specs.declared.event.CoreError.TheVariants.{Refused}
use Rattle.aff_core.specs.Steps.{IsFirstRefused, IsRun, start}
use Rattle.aff_core.proofs.EventLists.{turn-from_enumerate, err_then, ok_then, refused-at, refused-no_run, refused-unique, run-more, run-plan, run-whole}
use Rattle.aff_core.proofs.machine.run.Goals as goal

pub returns-then-is_err-clause-refusal : goal.returns-then-is_err-clause-refusal
returns-then-is_err-clause-refusal c =
    let t = YieldsList-turn (YieldsList-from_enumerate {s = c.into_iter-place-iterator.result} (YieldsList-from_vec {s = c.into_iter-place-iterator.result.iter} c.args.events.items (cc) (cc)) (cc)) c.loop-place.yielded c.loop-place.place-iterator c.loop-place.yielded_by c.next.result c.next.new.self (c.in-Some.place, c.in-Some.event) c.in-Some.is c.next.ensures.steps in
    let turn = turn-from_enumerate c.args.events.items (length c.loop-place.yielded) c.in-Some.place c.in-Some.event t.0 t.1 in
    let P : ℕ → Type 0 = λ n. IsFirstRefused (start c.args.plan.now c.args.passes c.args.sessions) c.args.events.items n in
    subst P (sym turn.place_is) (refused-at _ _ _ c.in-Some.event c.loop-place.state turn.inside turn.event_is c.loop-place.invariant.run (err_then c.apply.result _ (sym c.is_err.ensures.value ∙ c.if-is_err.true) c.apply.ensures.refused))

pub returns-then-is_err-clause-taken : goal.returns-then-is_err-clause-taken
returns-then-is_err-clause-taken c s h = absurd (refused-no_run _ _ _ s (returns-then-is_err-clause-refusal c) h)

pub returns-then-is_err-clause-named : goal.returns-then-is_err-clause-named
returns-then-is_err-clause-named c place h =
    inl (ap (λ n. Err (Refused n)) (refused-unique _ _ _ place (returns-then-is_err-clause-refusal c) h))

pub loop-place-preserved : goal.loop-place-preserved
loop-place-preserved c =
    let t = YieldsList-turn (YieldsList-from_enumerate {s = c.into_iter-place-iterator.result} (YieldsList-from_vec {s = c.into_iter-place-iterator.result.iter} c.args.events.items (cc) (cc)) (cc)) c.loop-place.yielded c.loop-place.place-iterator c.loop-place.yielded_by c.next.result c.next.new.self (c.in-Some.place, c.in-Some.event) c.in-Some.is c.next.ensures.steps in
    let turn = turn-from_enumerate c.args.events.items (length c.loop-place.yielded) c.in-Some.place c.in-Some.event t.0 t.1 in
    let n = length_push c.loop-place.yielded (c.in-Some.place, c.in-Some.event) in
    let Q : ℕ → Type 0 = λ k. IsRun (start c.args.plan.now c.args.passes c.args.sessions) (take k c.args.events.items) c.apply.new.self in
    record {
      can_next = search rules;
      is_finite = tt;
      run = subst Q (sym n) (run-more _ _ _ c.in-Some.event c.loop-place.state _ turn.inside turn.event_is c.loop-place.invariant.run (ok_then c.apply.result _ (sym c.is_err.ensures.value ∙ c.if-is_err.false) c.apply.ensures.step));
    }

pub returns-clause-named : goal.returns-clause-named
returns-clause-named c place h =
    absurd (refused-no_run _ _ place c.loop-place.state h
    (let e = YieldsList-end (YieldsList-from_enumerate {s = c.into_iter-place-iterator.result} (YieldsList-from_vec {s = c.into_iter-place-iterator.result.iter} c.args.events.items (cc) (cc)) (cc)) c.loop-place.yielded c.loop-place.place-iterator c.loop-place.yielded_by c.next.result c.next.new.self c.in-None.is c.next.ensures.steps in
    let n = length-enumerate_from 0 c.args.events.items in
    run-whole _ _ (length c.loop-place.yielded) _ (omega (arith, e.1, n)) c.loop-place.invariant.run))

pub returns-clause-plan : goal.returns-clause-plan
returns-clause-plan c = run-plan _ _ _ c.loop-place.invariant.run
