use Rattle.std.proofs.Common.{◌≡◌, ◌≢◌, ◌+◌, ◌⊎◌, ◌∷◌, ◌++◌, [], Err, ap, inl, inr, refl, subst, sym, ◌∙◌}
use Rattle.std.specs.Prelude.{IfErr, IfOk, IsOk}
use Rattle.std.proofs.lemmas.Result.{err_from_is_err_and}
use Rattle.aff_plan.specs.Reading.{parts_behind}
use Rattle.aff_plan.specs.Text.{kept_lines}
use Rattle.aff_plan.proofs.Walk.{kept_lines-one}
use Rattle.aff_script.specs.declared.error.ScriptError.TheVariants.{Memory}
use Rattle.aff_script.specs.Reading.{AreTaken}
use Rattle.aff_script.specs.Refused.{IsScriptRefused}
use Rattle.aff_script.specs.Script.{script_lines}
use Rattle.aff_script.proofs.Told.{all_taken, not_refused, same_script, taken_unless, told_unless}
use Rattle.aff_script.proofs.read.read_script.Goals as goal

pub returns-in_err-take_line-clause-refused : goal.returns-in_err-take_line-clause-refused
returns-in_err-take_line-clause-refused c =
    let n = c.lines.number in
    let line = c.cut_at.result.0.now in
    let others = parts_behind 10 c.cut_at.result.1 in
    let lines = script_lines c.args.first_line c.args.text.now in
    let read = subst (λ v. AreTaken c.args.size lines v c.lines.sessions.items) (ap (kept_lines n) c.cut_at.ensures.parts ∙ kept_lines-one n line others) c.lines.invariant.read in
    let p = err_from_is_err_and c.from_residual.result c.from_residual.ensures.1 in
    subst (λ r. IfErr r (λ e. e ≢ Memory → IsScriptRefused c.args.size c.args.first_line c.args.text.now e)) (sym (p.1 ∙ ap Err p.2))
    (c.in_err-take_line.ensures lines (kept_lines (n + 1) others) read)

pub returns-in_err-take_line-clause-taken : goal.returns-in_err-take_line-clause-taken
returns-in_err-take_line-clause-taken c = λ sessions is.
    let p = err_from_is_err_and c.from_residual.result c.from_residual.ensures.1 in
    let refused = subst (λ r. IfErr r (λ e. e ≢ Memory → IsScriptRefused c.args.size c.args.first_line c.args.text.now e)) p.1 (returns-in_err-take_line-clause-refused c) in
    subst (λ r. IfOk r (λ s. s ≡ sessions) × (IsOk r ⊎ (r ≡ Err Memory))) (sym p.1)
    (tt, inr (ap Err (taken_unless c.args.size c.args.first_line c.args.text.now p.0 sessions refused is)))

pub returns-in_err-take_line-clause-told : goal.returns-in_err-take_line-clause-told
returns-in_err-take_line-clause-told c = λ e is.
    let p = err_from_is_err_and c.from_residual.result c.from_residual.ensures.1 in
    let refused = subst (λ r. IfErr r (λ e. e ≢ Memory → IsScriptRefused c.args.size c.args.first_line c.args.text.now e)) p.1 (returns-in_err-take_line-clause-refused c) in
    elim (told_unless c.args.size c.args.first_line c.args.text.now p.0 e refused is) [
      | inl same ↦ inl (p.1 ∙ ap Err same)
      | inr memory ↦ inr (p.1 ∙ ap Err memory)
    ]

pub returns-in_default-clause-script : goal.returns-in_default-clause-script
returns-in_default-clause-script c =
    let n = c.lines.number in
    let line = c.cut_at.result.0.now in
    let others = parts_behind 10 c.cut_at.result.1 in
    let lines = script_lines c.args.first_line c.args.text.now in
    let read = subst (λ v. AreTaken c.args.size lines v c.lines.sessions.items) (ap (kept_lines n) c.cut_at.ensures.parts ∙ kept_lines-one n line others) c.lines.invariant.read in
    all_taken c.args.size c.args.first_line c.args.text.now (kept_lines (n + 1) others) c.take_line.new.sessions.items
    (c.in_ok-take_line.ensures lines (kept_lines (n + 1) others) read) (ap (λ v. kept_lines (n + 1) (parts_behind 10 v)) c.in_default.is)

pub returns-in_default-clause-taken : goal.returns-in_default-clause-taken
returns-in_default-clause-taken c = λ sessions is.
    (same_script c.args.size c.args.first_line c.args.text.now c.take_line.new.sessions.items sessions (returns-in_default-clause-script c) is, inl refl)

pub returns-in_default-clause-told : goal.returns-in_default-clause-told
returns-in_default-clause-told c = λ e is.
    absurd (not_refused c.args.size c.args.first_line c.args.text.now c.take_line.new.sessions.items e (returns-in_default-clause-script c) is)
