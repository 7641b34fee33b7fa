use Rattle.std.proofs.Common.{◌≡◌, ◌<◌, ◌≤◌, length, get_or, map, sym, subst, ◌∙◌, arith}
use Rattle.std.specs.Arc.{arc_value}
use Rattle.aff_session.specs.Sittings.{Sitting}
use Rattle.aff_run.specs.Sessions.{HasClosed, IsReady}
use Rattle.aff_run.proofs.Lives.{closed}
use Rattle.aff_run.proofs.Stepping.{at_place, changed, unchanged}
use Rattle.aff_run.proofs.answering.answer_late.Goals as goal

pub close-requires-clause-sound : goal.close-requires-clause-sound
close-requires-clause-sound g c κs within =
    let tells = g.F.Receipt.Telling.receipt_tells in
    let told = g.F.Receipt.Telling.told in
    let faults = g.F.Peek.Peek.peek_faults in
    let pieces = map arc_value c.args.pieces.now in
    let i = c.loop-session.invariant in
    let s = get_or c.loop-session.sessions c.loop-session.session-index c.session-item.result in
    let n = c.loop-session.session-index in
    let r = at_place (IsReady g.C.Case.content tells told faults pieces) c.args.sessions.now c.loop-session.sessions n c.session-item.result i.rest c.requires.ready c.loop-session-test.true in
    r.sound

pub close-requires-clause-seen : goal.close-requires-clause-seen
close-requires-clause-seen g c κs within =
    let tells = g.F.Receipt.Telling.receipt_tells in
    let told = g.F.Receipt.Telling.told in
    let faults = g.F.Peek.Peek.peek_faults in
    let pieces = map arc_value c.args.pieces.now in
    let i = c.loop-session.invariant in
    let s = get_or c.loop-session.sessions c.loop-session.session-index c.session-item.result in
    let n = c.loop-session.session-index in
    let r = at_place (IsReady g.C.Case.content tells told faults pieces) c.args.sessions.now c.loop-session.sessions n c.session-item.result i.rest c.requires.ready c.loop-session-test.true in
    r.seen

pub close-requires-clause-live : goal.close-requires-clause-live
close-requires-clause-live g c κs within =
    let tells = g.F.Receipt.Telling.receipt_tells in
    let told = g.F.Receipt.Telling.told in
    let faults = g.F.Peek.Peek.peek_faults in
    let pieces = map arc_value c.args.pieces.now in
    let i = c.loop-session.invariant in
    let s = get_or c.loop-session.sessions c.loop-session.session-index c.session-item.result in
    let n = c.loop-session.session-index in
    let r = at_place (IsReady g.C.Case.content tells told faults pieces) c.args.sessions.now c.loop-session.sessions n c.session-item.result i.rest c.requires.ready c.loop-session-test.true in
    r.live

pub loop-session-preserved : goal.loop-session-preserved
loop-session-preserved g c =
    let tells = g.F.Receipt.Telling.receipt_tells in
    let told = g.F.Receipt.Telling.told in
    let faults = g.F.Peek.Peek.peek_faults in
    let pieces = map arc_value c.args.pieces.now in
    let i = c.loop-session.invariant in
    let s = get_or c.loop-session.sessions c.loop-session.session-index c.session-item.result in
    let n = c.loop-session.session-index in
    let e = c.close.ensures in
    let r = at_place (IsReady g.C.Case.content tells told faults pieces) c.args.sessions.now c.loop-session.sessions n c.session-item.result i.rest c.requires.ready c.loop-session-test.true in
    let inside : n < length c.loop-session.sessions = omega (arith, c.loop-session-test.true, c.loop-session.auto.sessions) in
    let one = closed tells told faults g.C.Case.content pieces s c.close.new.self r e.earlier e.answers e.fault e.cause in
    record {
      done = changed (HasClosed tells told faults pieces) c.args.sessions.now c.loop-session.sessions n c.close.new.self inside i.done i.rest c.session-item.result one;
      rest = unchanged (HasClosed tells told faults pieces) c.args.sessions.now c.loop-session.sessions n c.close.new.self inside i.rest;
    }
