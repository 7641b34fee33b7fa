use Rattle.std.proofs.Common.{Err, List, ap, inl, inr, subst, sym, ◌∙◌}
use Rattle.std.proofs.lemmas.Result.{err_from_is_err_and}
use Rattle.aff_model.specs.declared.extent.Extent.{Extent}
use Rattle.aff_model.specs.Faults.{IsFirstFault}
use Rattle.aff_model.proofs.Faults.{told}
use Rattle.aff_model.proofs.plan.Plan.of.Goals as goal

pub returns-in_err-index-clause-told : goal.returns-in_err-index-clause-told
returns-in_err-index-clause-told c f h =
    let P : List Extent → Type 0 = λ es. IsFirstFault c.args.size c.args.block es f in
    let h_read : P c.deref.result.now = subst P (sym c.deref.ensures.value) h in
    let t = told _ _ _ c.in_err-index.field-0.0 f c.in_err-index.ensures.fault h_read in
    let p = err_from_is_err_and c.from_residual.result c.from_residual.ensures.1 in
    elim t [ inl e ↦ inl (p.1 ∙ ap Err (p.2 ∙ e)) | inr e ↦ inr (p.1 ∙ ap Err (p.2 ∙ e)) ]
