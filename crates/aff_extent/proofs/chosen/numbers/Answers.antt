use Rattle.std.proofs.Common.{◌≡◌, ℕ, ap, ◌∙◌, sym, cond, true, false, List, [], ◌∷◌, ◌++◌, append-nil, take}
use Rattle.aff_chunk.specs.declared.kind.Cut.TheVariants.{Zero}
use Rattle.aff_extent.specs.Drafts.{stored_from}
use Rattle.aff_extent.proofs.Stored.{stored_from-next}
use Rattle.aff_extent.proofs.chosen.numbers.Goals as goal
use Rattle.aff_extent.proofs.chosen.numbers.Goals.{then-is_stored+in_ok-push, else-is_stored}

pub loop-number-preserved : goal.loop-number-preserved
loop-number-preserved c =
    let n : ℕ = c.loop-number.number in
    let front : List ℕ = stored_from 0 (take n c.args.cuts.now) in
    let next = stored_from-next c.args.cuts.now n Zero c.loop-number-test.true in
    elim c.if-is_stored.branch [
      | then-is_stored+in_ok-push w ↦ ap (λ v. v.items) w.numbers-is ∙ w.in_ok-push.ensures.items ∙ ap (λ v. v ++ n ∷ []) c.loop-number.invariant
          ∙ sym (next ∙ ap (λ t. front ++ cond t (n ∷ []) []) (sym c.is_stored.ensures ∙ w.if-is_stored.true))
      | else-is_stored w ↦ ap (λ v. v.items) w.numbers-is ∙ c.loop-number.invariant
          ∙ sym (next ∙ ap (λ t. front ++ cond t (n ∷ []) []) (sym c.is_stored.ensures ∙ w.if-is_stored.false) ∙ append-nil front)
    ]
