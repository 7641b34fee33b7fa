use Rattle.std.proofs.Common.{leb, length, ap, ◌≡◌, ◌∙◌, sym}
use Rattle.std.proofs.lemmas.List.{length-map}
use Rattle.aff_core.specs.Steps.{extents_out}
use Rattle.aff_model.proofs.Once.{contains-from_done, done-from_contains}
use Rattle.aff_core.proofs.Kept.{complete-iff}
use Rattle.aff_core.proofs.state.State.is_complete.Goals as goal

pub returns : goal.returns
returns c =
    let standings : c.len-2.result ≡ length c.self.inside.standings.items = c.len-2.ensures ∙ c.self.inside.standings.ok.0 in
    let out : c.len.result ≡ length (extents_out c.self.inside.history.items) = c.len.ensures ∙ c.self.inside.history.ok.0 ∙ sym (length-map c.self.inside.history.items (λ p. p.extent)) in
    let whole = complete-iff _ _ _ _ _ c.self.invariant (ap (λ n. leb n c.len.result) standings ∙ ap (λ n. leb (length c.self.inside.standings.items) n) out) in
    rw (← c.self.view_is) (
      λ is k below. done-from_contains _ k (whole.0 is k below),
      λ all. whole.1 (λ k below. contains-from_done _ k (all k below)),
    )
