use Rattle.std.proofs.Common.{List, subst, slice_get, sym, ◌∙◌, ◌≡◌, ◌↔◌, IsTrue, Some}
use Rattle.std.proofs.lemmas.List.{length-map}
use Rattle.aff_model.specs.History.{Published}
use Rattle.aff_core.specs.declared.standing.Standing.{Standing}
use Rattle.aff_core.proofs.Standings.{free-iff}
use Rattle.aff_core.proofs.state.State.is_free.Goals as goal

pub returns : goal.returns
returns c =
    let history = c.self.inside.history.items in
    let i = free-iff _ _ _ c.args.extent c.self.invariant.tracks (length-map history (λ (p : Published). p.claimant) ∙ sym (length-map history (λ (p : Published). p.extent))) in
    let P : List Standing → Type 0 = λ l. IsTrue c.is_free.result ↔ (slice_get l c.args.extent ≡ Some Standing.Free) in
    let h : P c.self.inside.standings.items = subst P c.deref.ensures.value c.is_free.ensures in
    rw (← c.self.view_is) (λ t. i.0 (h.0 t), λ a. h.1 (i.1 a))
