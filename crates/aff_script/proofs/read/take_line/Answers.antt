use Rattle.std.proofs.Common.{◌≡◌, ◌++◌, ◌∷◌, [], false, subst, sym, ◌∙◌}
use Rattle.aff_plan.specs.Text.{is_skipped}
use Rattle.aff_plan.proofs.Walk.{kept_one}
use Rattle.aff_script.specs.Reading.{AreTaken, IsTaken}
use Rattle.aff_script.proofs.Told.{taken_more}
use Rattle.aff_script.proofs.read.take_line.Goals as goal

pub returns : goal.returns
returns c = λ lines after read.
    let sessions = c.args.sessions.now.items in
    let kept : is_skipped c.args.line.now ≡ false = sym c.is_skipped.ensures ∙ c.if-is_skipped.false in
    let at = subst (λ v. AreTaken c.args.size lines (v ++ after) sessions) (kept_one c.args.number c.args.line.now kept) read in
    let taken = subst (λ v. IsTaken c.args.size v c.args.line.now c.in_ok-said.said) c.deref.ensures.value c.in_ok-said.ensures in
    taken_more c.args.size lines c.args.number c.args.line.now after sessions c.in_ok-said.said c.add.new.sessions.items at taken c.in_ok-add.ensures
