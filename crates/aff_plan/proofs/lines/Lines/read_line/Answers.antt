use Rattle.std.proofs.Common.{◌≡◌, false, [], ◌∷◌, ◌++◌, ap, subst, sym, ◌∙◌}
use Rattle.aff_plan.specs.Reading.{AreRead, kept_of}
use Rattle.aff_plan.specs.Text.{is_skipped}
use Rattle.aff_plan.proofs.Sound.{read_more}
use Rattle.aff_plan.proofs.Walk.{kept_one}
use Rattle.aff_plan.proofs.lines.Lines.read_line.Goals as goal

pub returns-in_ok-push-in-Ok : goal.returns-in_ok-push-in-Ok
returns-in_ok-push-in-Ok c = λ lines after read.
    let old = c.args.self.now in
    let kept : is_skipped c.args.line.now ≡ false = sym c.is_skipped.ensures ∙ c.if-is_skipped.false in
    let at = subst (λ v. AreRead lines (v ++ after) old.numbers.items old.extents.items) (kept_one c.args.number c.args.line.now kept) read in
    let more = read_more lines c.args.number c.args.line.now after old.numbers.items old.extents.items c.in-Ok.ensures.extent at c.in-Ok.ensures.is_line in
    let extents = c.in_ok-push-in-Ok.ensures.extents ∙ ap (λ v. old.extents.items ++ v ∷ []) c.in-Ok.ensures.is in
    subst (λ v. AreRead lines after v c.push.new.self.extents.items) (sym c.in_ok-push-in-Ok.ensures.numbers)
    (subst (λ v. AreRead lines after (old.numbers.items ++ c.args.number ∷ []) v) (sym extents) more)
