use Rattle.std.proofs.Common.{[], ◌∷◌, subst, ◌∙◌}
use Rattle.aff_spec.specs.Appends.{Reaches}
use Rattle.aff_finish.specs.Container.{description_name, information_name, version_name, version_text}
use Rattle.aff_finish.proofs.volume.tell.Goals as goal

pub returns-clause-part : goal.returns-clause-part
returns-clause-part g c = λ t.
    subst (λ v. Reaches (g.F.Folder.held c.args.folder.now) v (g.F.Folder.held c.append_container.new.folder))
    (λ i. (version_name, version_text) ∷ (description_name, c.in-Ok.ensures i) ∷ (information_name, (c.deref.ensures.value ∙ c.in-Ok-information_of.ensures) i) ∷ [])
    (c.in-Err.ensures.part t)
