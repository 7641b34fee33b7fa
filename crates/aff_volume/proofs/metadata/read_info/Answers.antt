use Rattle.std.proofs.Common.{sym, subst, ◌∙◌, ap}
use Rattle.std.specs.Prelude.{Some}
use Rattle.aff_volume.specs.Opened.{IsStated}
use Rattle.aff_volume.proofs.Refused.{list_cause}
use Rattle.aff_volume.proofs.metadata.read_info.Goals as goal

pub returns-in-Ok-info_in-clause-named : goal.returns-in-Ok-info_in-clause-named
returns-in-Ok-info_in-clause-named g c = λ t.
    let stated : IsStated c.in-Ok.text.items c.in-Ok-info_in.found = subst (λ b. IsStated b c.in-Ok-info_in.found) c.as_slice-bytes.ensures.value c.in-Ok-info_in.ensures.stated in
    record { text = c.in-Ok.text.items; there = c.in-Ok.ensures.text t; facts = stated.facts; turtle = stated.turtle; stated = stated.stated }

pub returns-clause-refused : goal.returns-clause-refused
returns-clause-refused g c = λ t.
    c.in-Err-info_in.ensures.refused (g.F.Folder.held c.args.folder.now) (c.in-Ok.ensures.text t ∙ ap Some (sym c.as_slice-bytes.ensures.value))

pub returns-clause-cause : goal.returns-clause-cause
returns-clause-cause g c = record { later = c.in-Ok.ensures.cause.later; rose = λ h. absurd (list_cause _ c.in-Err-info_in.error c.in-Err-info_in.ensures.early h) }
