use Rattle.std.proofs.Common.{◌≡◌, ◌<◌, ◌≤◌, None, length, get_or, sym, ap, subst, ◌∙◌, arith}
use Rattle.std.specs.Prelude.{IfSome, List}
use mathlib.Core.List.{IsPrefix}
use Rattle.aff_book.specs.Pages.{Pages, list_of, run_of}
use Rattle.aff_model.specs.History.{Part}
use Rattle.aff_session.specs.Sittings.{Sitting}
use Rattle.aff_snapshot.specs.Lists.{Beginning, HasEvery, ListName}
use Rattle.aff_run.specs.Sessions.{HasLearned}
use Rattle.aff_run.proofs.Lives.{told_list}
use Rattle.aff_run.proofs.Stepping.{at_place, changed, unchanged}
use Rattle.aff_run.proofs.answering.learn_all.Goals as goal

pub learn-requires-clause-list : goal.learn-requires-clause-list
learn-requires-clause-list g c κs within =
    let L = list_of (run_of g.C.Case g.N.Named) in
    let i = c.loop-session.invariant in
    let n = c.loop-session.session-index in
    let e = c.session-item.result in
    let below : n < length c.args.sessions.now = c.loop-session-test.true in
    told_list (get_or c.loop-session.sessions n e).viewer L c.tell.result.list (ap (λ (b : Beginning g.row.F-Receipt.Denot). b.list) c.tell.ensures.told)
    (at_place (λ (x : Sitting g.row.F-Receipt.Denot g.row.F-Peek.Denot). IfSome x.viewer (λ v. v.list ≡ L)) c.args.sessions.now c.loop-session.sessions n e i.rest c.requires.list below)

pub loop-session-preserved : goal.loop-session-preserved
loop-session-preserved g c =
    let i = c.loop-session.invariant in
    let s = get_or c.loop-session.sessions c.loop-session.session-index c.session-item.result in
    let n = c.loop-session.session-index in
    let e = c.learn.ensures in
    let pieces = c.args.book.now.pieces in
    let told : c.tell.result.pieces ≡ pieces = ap (λ (b : Beginning g.row.F-Receipt.Denot). b.pieces) c.tell.ensures.told ∙ ap (λ (b : Pages g.row.F-Receipt.Denot). b.pieces) i.book in
    let inside : n < length c.loop-session.sessions = omega (arith, c.loop-session-test.true, c.loop-session.auto.sessions) in
    let one : HasLearned pieces s c.learn.new.self = record {
      same = e.same;
      fault = e.fault;
      learned = subst (λ (ps : List (Part g.row.F-Receipt.Denot)). c.learn.new.self.fault ≡ None → HasEvery s.plan ps → IfSome s.viewer (λ v. IsPrefix v.pieces ps)) told e.learned;
    } in
    record {
      book = c.tell.ensures.same ∙ i.book;
      done = changed (HasLearned pieces) c.args.sessions.now c.loop-session.sessions n c.learn.new.self inside i.done i.rest c.session-item.result one;
      rest = unchanged (HasLearned pieces) c.args.sessions.now c.loop-session.sessions n c.learn.new.self inside i.rest;
    }
