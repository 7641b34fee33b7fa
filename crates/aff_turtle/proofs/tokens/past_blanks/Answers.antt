use Rattle.std.proofs.Common.{drop, arith, sym, ap, ◌∙◌}
use Rattle.aff_turtle.proofs.Steps.{split, feed, blank, comment, begins, begins_none}
use Rattle.aff_turtle.proofs.tokens.past_blanks.Goals as goal

pub loop-c-preserved-then-c-eq10 : goal.loop-c-preserved-then-c-eq10
loop-c-preserved-then-c-eq10 c =
    let s = split c.loop-c.rest.now c.index-rest-0.result c.behind-after.result.now c.loop-c-test.ensures c.index-rest-0.is c.behind-after.ensures.value in
    record {
      so_far = sym (feed c.loop-c.line c.loop-c.rest.now c.index-rest-0.result c.behind-after.result.now s c.if-c-eq10.true) ∙ c.loop-c.invariant.so_far;
      inside = omega (arith, s.some, c.behind-after.ensures.len, c.loop-c.invariant.inside);
      shorter = omega (arith, c.behind-after.ensures.len, c.loop-c.invariant.shorter);
    }

pub loop-c-preserved-then-is_blank : goal.loop-c-preserved-then-is_blank
loop-c-preserved-then-is_blank c =
    let s = split c.loop-c.rest.now c.index-rest-0.result c.behind-after.result.now c.loop-c-test.ensures c.index-rest-0.is c.behind-after.ensures.value in
    record {
      so_far = sym (blank c.loop-c.line c.loop-c.rest.now c.index-rest-0.result c.behind-after.result.now s c.if-c-eq10.false (sym c.if-is_blank.ensures)) ∙ c.loop-c.invariant.so_far;
      inside = omega (arith, c.behind-after.ensures.len, c.loop-c.invariant.inside);
      shorter = omega (arith, c.behind-after.ensures.len, c.loop-c.invariant.shorter);
    }

pub loop-c-preserved : goal.loop-c-preserved
loop-c-preserved c =
    let s = split c.loop-c.rest.now c.index-rest-0.result c.behind-after.result.now c.loop-c-test.ensures c.index-rest-0.is c.behind-after.ensures.value in
    let r = c.behind-rest.ensures.value ∙ ap (λ n. drop n c.behind-after.result.now) c.run.ensures.value in
    record {
      so_far = sym (comment c.loop-c.line c.loop-c.rest.now c.index-rest-0.result c.behind-after.result.now c.behind-rest.result.now s c.if-c-eq10.false (sym c.if-is_blank.ensures) c.if-c-eq35.true r) ∙ c.loop-c.invariant.so_far;
      inside = omega (arith, c.behind-rest.ensures.len, c.behind-after.ensures.len, c.loop-c.invariant.inside);
      shorter = omega (arith, c.behind-rest.ensures.len, c.behind-after.ensures.len, c.loop-c.invariant.shorter);
    }

pub returns-else-c-eq35-clause-begins : goal.returns-else-c-eq35-clause-begins
returns-else-c-eq35-clause-begins c =
    let s = split c.loop-c.rest.now c.index-rest-0.result c.behind-after.result.now c.loop-c-test.ensures c.index-rest-0.is c.behind-after.ensures.value in
    begins c.loop-c.rest.now c.index-rest-0.result c.behind-after.result.now s c.if-c-eq10.false (sym c.if-is_blank.ensures) c.if-c-eq35.false

pub returns-clause-begins : goal.returns-clause-begins
returns-clause-begins c = begins_none c.loop-c.rest.now c.loop-c-test.ensures
