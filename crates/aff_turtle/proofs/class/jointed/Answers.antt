use Rattle.std.proofs.Common.{arith, sym}
use Rattle.aff_turtle.proofs.Runs.{jointed_yes, jointed_no, jointed_end}
use Rattle.aff_turtle.proofs.class.jointed.Goals as goal

pub returns-then-not-goes_on-clause-value : goal.returns-then-not-goes_on-clause-value
returns-then-not-goes_on-clause-value c = omega (arith, c.loop-place.invariant, jointed_no c.args.class c.args.joint c.args.next c.args.chars.now c.loop-place.place c.index-chars-place.result c.at-follows.result c.loop-place-test.true c.index-chars-place.is c.at-follows.ensures (sym c.if-not-goes_on.ensures))

pub loop-place-preserved : goal.loop-place-preserved
loop-place-preserved c = omega (arith, c.loop-place.invariant, jointed_yes c.args.class c.args.joint c.args.next c.args.chars.now c.loop-place.place c.index-chars-place.result c.at-follows.result c.loop-place-test.true c.index-chars-place.is c.at-follows.ensures (sym c.if-not-goes_on.ensures))

pub returns-clause-value : goal.returns-clause-value
returns-clause-value c = omega (arith, c.loop-place.invariant, jointed_end c.args.class c.args.joint c.args.next c.args.chars.now c.loop-place.place)
