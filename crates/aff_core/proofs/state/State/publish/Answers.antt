use Rattle.std.proofs.Common.{[], ◌∷◌, ◌++◌, ◌≡◌, ap, arith, refl, rules, sym, ◌∙◌}
use Rattle.aff_model.specs.History.{Published}
use Rattle.aff_core.proofs.Kept.{claims-joined, kept-published, publish-next, step-published}
use Rattle.aff_core.proofs.state.State.publish.Goals as goal

pub unwrap-requires : goal.unwrap-requires
unwrap-requires c =
    let next = publish-next _ _ _ _ _ _ c.self.view_is c.publication.view_is refl c.self.invariant (c.may_publish.ensures.0 c.if-not-may_publish.false) in
    c.push.ensures.succeeds (omega (arith, next.room_left, c.self.inside.history.ok.0))

pub index_mut-requires : goal.index_mut-requires
index_mut-requires c =
    let next = publish-next _ _ _ _ _ _ c.self.view_is c.publication.view_is refl c.self.invariant (c.may_publish.ensures.0 c.if-not-may_publish.false) in
    omega (arith, next.planned, c.self.inside.standings.ok.0)

pub invariant_of-self : goal.invariant_of-self
invariant_of-self c =
    let next = publish-next _ _ _ _ _ _ c.self.view_is c.publication.view_is refl c.self.invariant (c.may_publish.ensures.0 c.if-not-may_publish.false) in
    kept-published _ _ _ _ c.args.publication _ _ _ _ _ c.self.invariant next.held (search rules) (sym (ap (λ (q : Published). q.extent) c.publication.view_is)) (c.len-place.ensures ∙ c.self.inside.history.ok.0) c.push.ensures.capacity

pub returns-clause-step : goal.returns-clause-step
returns-clause-step c =
    let may = c.may_publish.ensures.0 c.if-not-may_publish.false in
    let next = publish-next _ _ _ _ _ _ c.self.view_is c.publication.view_is refl c.self.invariant may in
    let joined : c.push.new.self.items ≡ c.self.inside.history.items ++ c.args.publication ∷ [] = search rules in
    let claims = claims-joined _ _ _ c.args.publication _ _ _ c.self.invariant.tracks next.held joined (sym (ap (λ (q : Published). q.claimant) c.publication.view_is)) (c.len-place.ensures ∙ c.self.inside.history.ok.0) in
    step-published _ _ _ _ _ c.self.view_is may claims joined
