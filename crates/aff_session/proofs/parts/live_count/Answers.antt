use Rattle.std.proofs.Common.{arith}
use Rattle.aff_session.proofs.Requests.{at_after, at_end, none_more}
use Rattle.aff_session.proofs.parts.live_count.Goals as goal

pub loop-count-preserved : goal.loop-count-preserved
loop-count-preserved c = none_more c.args.requests.now c.loop-count.count c.is_after.result _ c.is_after.ensures c.if-is_after.false c.loop-count-test.true c.loop-count.invariant

pub returns-then-is_after-clause-live : goal.returns-then-is_after-clause-live
returns-then-is_after-clause-live c = (at_after c.args.requests.now c.loop-count.count c.is_after.result _ c.is_after.ensures c.if-is_after.true c.loop-count-test.true c.loop-count.invariant).0

pub returns-then-is_after-clause-late : goal.returns-then-is_after-clause-late
returns-then-is_after-clause-late c = (at_after c.args.requests.now c.loop-count.count c.is_after.result _ c.is_after.ensures c.if-is_after.true c.loop-count-test.true c.loop-count.invariant).1

pub returns-clause-live : goal.returns-clause-live
returns-clause-live c = (at_end c.args.requests.now c.loop-count.count (omega arith) c.loop-count.invariant).0

pub returns-clause-late : goal.returns-clause-late
returns-clause-late c = (at_end c.args.requests.now c.loop-count.count (omega arith) c.loop-count.invariant).1
