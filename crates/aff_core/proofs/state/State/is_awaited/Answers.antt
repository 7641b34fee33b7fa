use Rattle.std.proofs.Common.{List, subst, slice_get, ◌≡◌, ◌↔◌, IsTrue, Some}
use Rattle.aff_core.specs.declared.standing.Standing.{Standing}
use Rattle.aff_core.proofs.Standings.{awaited-iff}
use Rattle.aff_core.proofs.state.State.is_awaited.Goals as goal

pub returns : goal.returns
returns c =
    let i = awaited-iff _ _ _ c.args.extent c.args.claimant c.self.invariant.tracks in
    let P : List Standing → Type 0 = λ l. IsTrue c.is_held.result ↔ (slice_get l c.args.extent ≡ Some (Standing.Claimed c.args.claimant)) in
    let h : P c.self.inside.standings.items = subst P c.deref.ensures.value c.is_held.ensures in
    rw (← c.self.view_is) (λ t. i.0 (h.0 t), λ a. h.1 (i.1 a))
