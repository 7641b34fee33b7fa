use Rattle.std.proofs.Common.{◌≡◌, ℕ, ◌+◌, ◌<◌, inl, inr, map, get_or, sym, ap, ◌∙◌, arith}
use Rattle.std.specs.Arc.{arc_value}
use Rattle.std.proofs.lemmas.Bool.Decides.{leb_tells}
use Rattle.aff_model.specs.History.{Part}
use Rattle.aff_analyst.specs.Seen.{extents_of}
use Rattle.aff_analyst.proofs.Parts.{extent_at_place, view_at}
use Rattle.aff_analyst.proofs.seen.first_of.Goals as goal

pub returns-then-deref-extent-clause-is : goal.returns-then-deref-extent-clause-is
returns-then-deref-extent-clause-is g c =
    extent_at_place (map arc_value c.args.pieces.now) c.loop-number.number (arc_value c.index-pieces-number.result) (view_at arc_value c.args.pieces.now c.loop-number.number c.index-pieces-number.result c.loop-number-test.true c.index-pieces-number.is)
    ∙ sym (ap (λ (q : Part _). q.extent) (c.behind-piece.view_is ∙ c.deref.ensures)) ∙ c.if-deref-extent.true

pub loop-number-preserved : goal.loop-number-preserved
loop-number-preserved g c = λ k low same.
    let pieces = map arc_value c.args.pieces.now in
    let n : ℕ = c.loop-number.number in
    let read = extent_at_place pieces n (arc_value c.index-pieces-number.result) (view_at arc_value c.args.pieces.now n c.index-pieces-number.result c.loop-number-test.true c.index-pieces-number.is) in
    elim (leb_tells n k) [
      | inl x ↦ (
          let here : n ≡ k = omega (arith, low, x.1) in
          c.if-deref-extent.false (ap (λ (q : Part _). q.extent) (c.behind-piece.view_is ∙ c.deref.ensures) ∙ sym read ∙ ap (λ j. get_or (extents_of pieces) j 0) here ∙ same))
      | inr y ↦ c.loop-number.invariant k y.1 same
    ]
