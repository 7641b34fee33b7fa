-- Which extents stand in a history: none twice, and where all of them do it is complete.
use Rattle.std.proofs.Common.{◌≡◌, ℕ, ◌+◌, ◌<◌, List, [], ◌∷◌, ◌++◌, length, sym, subst, ◌∙◌, arith}
use Rattle.std.specs.Prelude.{Contains}
use Rattle.std.specs.List.{range_with_len}
use Rattle.std.proofs.lemmas.List.{map-append}
use Rattle.std.proofs.lemmas.List.FromFn.{get_or-range_with_len, length-range_with_len}
use Rattle.aff_model.specs.declared.extent.Extent.{Extent}
use Rattle.aff_model.specs.History.{Published}
use Rattle.aff_model.specs.Legal.{IsComplete}
use Rattle.aff_model.proofs.Once.{done-from_contains, extents_of}
use Rattle.aff_spec.proofs.Bevvies.{range_more}

-- where each extent of the plan stands in a history, it is complete
pub complete-from_contains : (extents : List Extent) (history : List Published) → ((k : ℕ) → k < length extents → Contains (extents_of history) k) → IsComplete extents history
complete-from_contains extents history all k below = done-from_contains history k (all k below)

range_has : (n k : ℕ) → k < n → Contains (range_with_len 0 n) k
range_has n k below = (k, omega (arith, below, length-range_with_len 0 n), get_or-range_with_len 0 n k k below ∙ omega arith)

range_lacks : (n : ℕ) → ¬ (Contains (range_with_len 0 n) n)
range_lacks n there =
    let low : there.0 < n = omega (arith, there.1, length-range_with_len 0 n) in
    omega (arith, low, there.2, get_or-range_with_len 0 n there.0 n low)

-- in the plan's order: the next extent is new, it comes last, and all of them are complete
pub in_order-new : (history : List Published) (k : ℕ) → extents_of history ≡ range_with_len 0 k → ¬ (Contains (extents_of history) k)
in_order-new history k order there = range_lacks k (subst (λ v. Contains v k) order there)

pub in_order-push : (history : List Published) (p : Published) (k : ℕ) → extents_of history ≡ range_with_len 0 k → p.extent ≡ k → extents_of (history ++ p ∷ []) ≡ range_with_len 0 (k + 1)
in_order-push history p k order next =
    let last : p.extent ≡ 0 + k = omega (arith, next) in
    map-append (λ q. q.extent) history (p ∷ []) ∙ (λ i. order i ++ last i ∷ []) ∙ sym (range_more 0 k)

pub in_order-complete : (extents : List Extent) (history : List Published) → extents_of history ≡ range_with_len 0 (length extents) → IsComplete extents history
in_order-complete extents history order = complete-from_contains extents history (λ k below. subst (λ v. Contains v k) (sym order) (range_has (length extents) k below))
