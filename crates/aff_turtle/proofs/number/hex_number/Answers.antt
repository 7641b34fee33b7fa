use Rattle.std.proofs.Common.{◌<◌, ◌+◌, sym, ◌∙◌, arith}
use Rattle.aff_turtle.proofs.Hex.{below_limit, eight_digits, digit_goes_on, digit_fails, no_more}
use Rattle.aff_turtle.proofs.number.hex_number.Goals as goal

pub returns-then-chars-place-clause-value : goal.returns-then-chars-place-clause-value
returns-then-chars-place-clause-value c = sym (no_more c.args.digits c.loop-place.place c.loop-place.number c.args.chars.now c.loop-place-test.true c.if-chars-place.true) ∙ c.loop-place.invariant.so_far

pub overflow_add-number : goal.overflow_add-number
overflow_add-number c =
    let small : c.in-Some.digit < 16 = omega (arith, c.in-Some.ensures.value) in
    let below = below_limit c.loop-place.place c.loop-place.number c.in-Some.digit c.loop-place.invariant.below small in
    let fits = eight_digits (c.loop-place.place + 1) (omega arith) in
    omega (arith, below, fits)

pub returns-in-None-clause-value : goal.returns-in-None-clause-value
returns-in-None-clause-value c = sym (digit_fails c.args.digits c.loop-place.place c.loop-place.number c.index-chars-place.result c.args.chars.now c.loop-place-test.true c.if-chars-place.false c.index-chars-place.is (omega (arith, c.in-None.ensures.value))) ∙ c.loop-place.invariant.so_far

pub loop-place-preserved : goal.loop-place-preserved
loop-place-preserved c =
    let small : c.in-Some.digit < 16 = omega (arith, c.in-Some.ensures.value) in
    let e = c.in-Some.ensures.value.1 in
    record {
      so_far = rw e (sym (digit_goes_on c.args.digits c.loop-place.place c.loop-place.number c.index-chars-place.result c.args.chars.now c.loop-place-test.true c.if-chars-place.false c.index-chars-place.is c.in-Some.ensures.value.0) ∙ c.loop-place.invariant.so_far);
      inside = omega arith;
      below = below_limit c.loop-place.place c.loop-place.number c.in-Some.digit c.loop-place.invariant.below small;
    }
