use Rattle.std.proofs.Common.{sym, ap, ◌∙◌, arith}
use Rattle.aff_turtle.specs.Quoted.{escaped, quoted}
use Rattle.aff_turtle.proofs.Quotes.{closes, fails, fails_escape, goes_on, goes_on_behind, ends}
use Rattle.aff_turtle.proofs.quoted.quoted.Goals as goal

pub returns-then-c-quote-clause-value : goal.returns-then-c-quote-clause-value
returns-then-c-quote-clause-value c = closes c.args.quote c.index-chars-at.result c.args.chars.now c.loop-at.text.items c.loop-at.at (quoted c.args.quote 0 c.args.chars.now) c.loop-at-test.true c.index-chars-at.is c.if-c-quote.true c.loop-at.invariant.so_far

pub loop-at-preserved-in-Some : goal.loop-at-preserved-in-Some
loop-at-preserved-in-Some c = record {
  so_far = rw c.in_ok-push-in-Some.ensures.items (goes_on_behind c.args.quote c.index-chars-at.result c.in-Some.named c.in-Some.taken c.args.chars.now c.loop-at.text.items c.loop-at.at (quoted c.args.quote 0 c.args.chars.now) c.loop-at-test.true c.index-chars-at.is c.if-c-quote.false c.if-c-eq92.true (c.in-Some.ensures.value ∙ ap escaped c.behind.ensures.value) c.loop-at.invariant.so_far);
  inside = omega (arith, c.in-Some.ensures.inside, c.behind.ensures.len);
}

pub returns-in-None-clause-value : goal.returns-in-None-clause-value
returns-in-None-clause-value c = fails_escape c.args.quote c.index-chars-at.result c.args.chars.now c.loop-at.text.items c.loop-at.at (quoted c.args.quote 0 c.args.chars.now) c.loop-at-test.true c.index-chars-at.is c.if-c-quote.false c.if-c-eq92.true (c.in-None.ensures.value ∙ ap escaped c.behind.ensures.value) c.loop-at.invariant.so_far

pub returns-then-is_line_end-clause-value : goal.returns-then-is_line_end-clause-value
returns-then-is_line_end-clause-value c = fails c.args.quote c.index-chars-at.result c.args.chars.now c.loop-at.text.items c.loop-at.at (quoted c.args.quote 0 c.args.chars.now) c.loop-at-test.true c.index-chars-at.is c.if-c-quote.false c.if-c-eq92.false (sym c.is_line_end.ensures ∙ c.if-is_line_end.true) c.loop-at.invariant.so_far

pub loop-at-preserved : goal.loop-at-preserved
loop-at-preserved c = record {
  so_far = rw c.in_ok-push.ensures.items (goes_on c.args.quote c.index-chars-at.result c.args.chars.now c.loop-at.text.items c.loop-at.at (quoted c.args.quote 0 c.args.chars.now) c.loop-at-test.true c.index-chars-at.is c.if-c-quote.false c.if-c-eq92.false (sym c.is_line_end.ensures ∙ c.if-is_line_end.false) c.loop-at.invariant.so_far);
  inside = omega arith;
}

pub returns-clause-value : goal.returns-clause-value
returns-clause-value c = ends c.args.quote c.args.chars.now c.loop-at.text.items c.loop-at.at (quoted c.args.quote 0 c.args.chars.now) c.loop-at-test.false c.loop-at.invariant.so_far
