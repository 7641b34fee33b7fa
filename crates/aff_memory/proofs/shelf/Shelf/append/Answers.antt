use Rattle.std.proofs.Common.{sym, ap, ◌∙◌, subst}
use Rattle.std.specs.Prelude.{if◌then◌else◌}
use Rattle.std.specs.List.{insert}
use Rattle.aff_model.specs.Held.{appended}
use Rattle.aff_memory.specs.Shelf.{StandsAt, IsGap}
use Rattle.aff_memory.proofs.Puts.{grown, grown_sorted, made, made_sorted, where_ok, where_is_ok}
use Rattle.aff_memory.proofs.shelf.Shelf.append.Goals as goal

pub invariant_of-self : goal.invariant_of-self
invariant_of-self c =
    let stands : StandsAt c.self.inside.kept.items c.args.name.now c.in-Ok.i = subst (λ es. StandsAt es c.args.name.now c.in-Ok.i) c.deref.ensures.value c.in-Ok.ensures.found in
    grown_sorted _ c.args.name.now _ c.index_mut.result.now c.grow.new.self c.self.invariant stands c.index_mut.ensures.value c.grow.ensures.key

pub returns-in-Ok-clause-ok : goal.returns-in-Ok-clause-ok
returns-in-Ok-clause-ok c =
    let stands : StandsAt c.self.inside.kept.items c.args.name.now c.in-Ok.i = subst (λ es. StandsAt es c.args.name.now c.in-Ok.i) c.deref.ensures.value c.in-Ok.ensures.found in
    where_ok c.grow.result
    (λ is. grown _ c.args.name.now c.args.shared _ c.index_mut.result.now c.grow.new.self c.self.invariant stands c.index_mut.ensures.value is ∙ ap (λ held. appended held c.args.name.now c.args.shared) c.self.view_is)
    c.grow.ensures.ok

pub invariant_of-self-in-Err : goal.invariant_of-self-in-Err
invariant_of-self-in-Err c =
    let gap : IsGap c.self.inside.kept.items c.args.name.now c.in-Err.i = subst (λ es. IsGap es c.args.name.now c.in-Err.i) c.deref.ensures.value c.in-Err.ensures.missing in
    made_sorted _ _ _ _ _ _ c.in_ok-one-in-Err.one c.self.invariant gap c.in_ok-one-in-Err.ensures c.insert.ensures.items

pub returns-in_ok-one-in-Err-clause-ok : goal.returns-in_ok-one-in-Err-clause-ok
returns-in_ok-one-in-Err-clause-ok c =
    let gap : IsGap c.self.inside.kept.items c.args.name.now c.in-Err.i = subst (λ es. IsGap es c.args.name.now c.in-Err.i) c.deref.ensures.value c.in-Err.ensures.missing in
    where_is_ok c.map_err.result
    (λ is. made _ _ c.args.name.now c.args.shared _ c.in_ok-one-in-Err.one c.self.invariant gap c.in_ok-one-in-Err.ensures
    (c.insert.ensures.items ∙ ap (λ b. if b then insert c.self.inside.kept.items c.in-Err.i c.in_ok-one-in-Err.one else c.self.inside.kept.items) (sym c.map_err.ensures.variant ∙ is))
    ∙ ap (λ held. appended held c.args.name.now c.args.shared) c.self.view_is)
