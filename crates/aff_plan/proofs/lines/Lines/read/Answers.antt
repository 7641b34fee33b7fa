use Rattle.std.proofs.Common.{◌≡◌, ◌+◌, ◌++◌, ◌∷◌, [], None, Some, false, ap, arith, subst, sym, ◌∙◌}
use Rattle.std.specs.Prelude.{MatchOption}
use Rattle.aff_plan.specs.Reading.{AreRead, IsReading, parts_behind}
use Rattle.aff_plan.specs.Text.{is_session, kept_lines, numbered_lines}
use Rattle.aff_plan.proofs.Sound.{read_none}
use Rattle.aff_plan.proofs.Walk.{lines_from, lines_from-line, room, room_less}
use Rattle.aff_plan.proofs.lines.Lines.read.Goals as goal

pub lines-init : goal.lines-init
lines-init c = record { read = read_none _ _ _ c.requires.numbers c.requires.extents; few = omega arith }

pub returns-in-Some-2 : goal.returns-in-Some-2
returns-in-Some-2 c =
    let lines = numbered_lines c.args.text.now in
    let line = c.cut_at.result.0.now in
    let others = parts_behind 10 c.cut_at.result.1 in
    let n = c.lines.number + 1 in
    let other : is_session line ≡ false = cc (c.eq.ensures, c.as_slice.ensures, c.if-eq.false) in
    let parts : parts_behind 10 c.lines.rest ≡ line ∷ others = ap (parts_behind 10) c.in-Some.is ∙ c.cut_at.ensures.parts in
    let are : lines_from n (parts_behind 10 c.lines.rest) ≡ kept_lines n (line ∷ []) ++ lines_from (n + 1) others = ap (lines_from n) parts ∙ lines_from-line n line others other in
    let read : AreRead lines (kept_lines n (line ∷ []) ++ lines_from (n + 1) others) c.lines.self.numbers.items c.lines.self.extents.items =
    subst (λ v. AreRead lines v c.lines.self.numbers.items c.lines.self.extents.items) are c.lines.invariant.read in
    let after = c.read_line.new.self in
    subst (λ stop. MatchOption stop (AreRead lines (lines_from (n + 1) others) after.numbers.items after.extents.items)
    (λ error. IsReading lines after.numbers.items after.extents.items (Some error))) c.in-Some-2.is (c.in_ok-error.ensures lines (lines_from (n + 1) others) read)

pub lines-preserved : goal.lines-preserved
lines-preserved c =
    let lines = numbered_lines c.args.text.now in
    let line = c.cut_at.result.0.now in
    let others = parts_behind 10 c.cut_at.result.1 in
    let n = c.lines.number + 1 in
    let other : is_session line ≡ false = cc (c.eq.ensures, c.as_slice.ensures, c.if-eq.false) in
    let parts : parts_behind 10 c.lines.rest ≡ line ∷ others = ap (parts_behind 10) c.in-Some.is ∙ c.cut_at.ensures.parts in
    let are : lines_from n (parts_behind 10 c.lines.rest) ≡ kept_lines n (line ∷ []) ++ lines_from (n + 1) others = ap (lines_from n) parts ∙ lines_from-line n line others other in
    let read : AreRead lines (kept_lines n (line ∷ []) ++ lines_from (n + 1) others) c.lines.self.numbers.items c.lines.self.extents.items =
    subst (λ v. AreRead lines v c.lines.self.numbers.items c.lines.self.extents.items) are c.lines.invariant.read in
    let after = c.read_line.new.self in
    record {
      read = subst (λ stop. MatchOption stop (AreRead lines (lines_from (n + 1) others) after.numbers.items after.extents.items)
          (λ error. IsReading lines after.numbers.items after.extents.items (Some error))) c.in_default-2.is (c.in_ok-error.ensures lines (lines_from (n + 1) others) read);
      few = omega (arith, c.lines.invariant.few, ap room c.in-Some.is, room_less c.cut_at.result.1 c.in-Some.lines.now c.cut_at.ensures.shorter);
    }
