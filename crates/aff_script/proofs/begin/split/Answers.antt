use Rattle.std.proofs.Common.{◌≡◌, ◌+◌, ◌<◌, ◌∷◌, ◌++◌, [], true, false, ap, arith, length, length-append, refl, sym, ◌∙◌}
use Rattle.std.proofs.lemmas.Bool.Decides.{nat_tests}
use Rattle.aff_plan.specs.Reading.{parts_behind}
use Rattle.aff_plan.specs.Text.{is_session}
use Rattle.aff_spec.specs.Lines.{lines_of}
use Rattle.aff_script.proofs.Starts.{begins, last_some, lines_more, none_more, nowhere, nowhere_left, rest_is, text_more}
use Rattle.aff_script.proofs.begin.split.Goals as goal

pub returns-then-eq-clause-split : goal.returns-then-eq-clause-split
returns-then-eq-clause-split c =
    let inv = c.lines.invariant in
    let line = c.cut_at.result.0.now in
    let same : is_session line ≡ true = cc (c.eq.ensures, c.as_slice.ensures, c.if-eq.true) in
    begins c.args.text.now c.lines.rest.now line inv.front (parts_behind 10 c.cut_at.result.1) _ c.lines.number inv.text inv.lines inv.none c.cut_at.ensures.parts same refl inv.count

pub returns-in_default-clause-split : goal.returns-in_default-clause-split
returns-in_default-clause-split c =
    let inv = c.lines.invariant in
    let line = c.cut_at.result.0.now in
    let rest = c.lines.rest.now in
    let other : is_session line ≡ false = cc (c.eq.ensures, c.as_slice.ensures, c.if-eq.false) in
    let cut : lines_of rest ≡ line ∷ [] = c.cut_at.ensures.parts ∙ ap (λ v. line ∷ parts_behind 10 v) c.in_default.is in
    let some : 0 < length rest = grind (arith, nat_tests, c.is_empty.ensures, c.lines-test.true) in
    nowhere c.args.text.now rest line inv.front _ inv.lines inv.none cut other (omega (arith, inv.count, last_some rest line cut some))

pub lines-preserved : goal.lines-preserved
lines-preserved c =
    let inv = c.lines.invariant in
    let line = c.cut_at.result.0.now in
    let rest = c.lines.rest.now in
    let others = c.in-Some.others.now in
    let other : is_session line ≡ false = cc (c.eq.ensures, c.as_slice.ensures, c.if-eq.false) in
    let cut : lines_of rest ≡ line ∷ lines_of others = c.cut_at.ensures.parts ∙ ap (λ v. line ∷ parts_behind 10 v) c.in-Some.is in
    let whole = rest_is rest line others cut in
    record {
      front = inv.front ++ line ∷ [];
      text = text_more c.args.text.now inv.front rest line others inv.text whole;
      lines = lines_more (lines_of c.args.text.now) inv.front (lines_of rest) (lines_of others) line inv.lines cut;
      none = none_more inv.front line inv.none other;
      count = omega (arith, inv.count, length-append inv.front (line ∷ []));
      few = omega (arith, inv.few, ap length whole, length-append line (10 ∷ others));
    }

pub returns-clause-split : goal.returns-clause-split
returns-clause-split c =
    let inv = c.lines.invariant in
    let rest = c.lines.rest.now in
    let left : length rest ≡ 0 = grind (arith, nat_tests, c.is_empty.ensures, c.lines-test.false) in
    nowhere_left c.args.text.now rest inv.front c.lines.number inv.lines inv.none left inv.count
