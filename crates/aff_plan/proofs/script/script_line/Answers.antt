use Rattle.std.proofs.Common.{◌≡◌, ◌+◌, ◌++◌, ◌∷◌, [], Some, ap, append_assoc, arith, length-append, sym, subst, true, false, ◌∙◌}
use Rattle.std.proofs.lemmas.List.{append-nil}
use Rattle.aff_plan.specs.Reading.{parts_behind}
use Rattle.aff_plan.specs.Text.{is_session}
use Rattle.aff_spec.specs.Lines.{lines_of}
use Rattle.aff_plan.proofs.Walk.{AreNoSession, no_session, no_session_more, room, room_less, session_at}
use Rattle.aff_plan.proofs.script.script_line.Goals as goal

pub returns-then-eq : goal.returns-then-eq
returns-then-eq c =
    let before = c.lines.invariant.before in
    let line = c.cut_at.result.0.now in
    let others = parts_behind 10 c.cut_at.result.1 in
    let whole : lines_of c.args.text.now ≡ before ++ line ∷ others = c.lines.invariant.are ∙ ap (λ v. before ++ v) (ap (parts_behind 10) c.in-Some.is ∙ c.cut_at.ensures.parts) in
    let begins : is_session line ≡ true = cc (c.eq.ensures, c.as_slice.ensures, c.if-eq.true) in
    ap (λ n. Some (n + 1)) (sym c.lines.invariant.count) ∙ sym (session_at (lines_of c.args.text.now) before others line whole c.lines.invariant.none begins)

pub lines-preserved : goal.lines-preserved
lines-preserved c =
    let before = c.lines.invariant.before in
    let line = c.cut_at.result.0.now in
    let others = parts_behind 10 c.cut_at.result.1 in
    let whole : lines_of c.args.text.now ≡ before ++ line ∷ others = c.lines.invariant.are ∙ ap (λ v. before ++ v) (ap (parts_behind 10) c.in-Some.is ∙ c.cut_at.ensures.parts) in
    let other : is_session line ≡ false = cc (c.eq.ensures, c.as_slice.ensures, c.if-eq.false) in
    record {
      before = before ++ line ∷ [];
      are = whole ∙ sym (append_assoc before (line ∷ []) others);
      none = no_session_more before line c.lines.invariant.none other;
      count = omega (arith, c.lines.invariant.count, length-append before (line ∷ []));
      few = omega (arith, c.lines.invariant.few, ap room c.in-Some.is, room_less c.cut_at.result.1 c.in-Some.lines.now c.cut_at.ensures.shorter);
    }

pub returns : goal.returns
returns c =
    let before = c.lines.invariant.before in
    let end : parts_behind 10 c.lines.rest ≡ [] = ap (parts_behind 10) c.in_default.is in
    let whole : lines_of c.args.text.now ≡ before = c.lines.invariant.are ∙ ap (λ v. before ++ v) end ∙ append-nil before in
    sym (no_session (lines_of c.args.text.now) (subst AreNoSession (sym whole) c.lines.invariant.none))
