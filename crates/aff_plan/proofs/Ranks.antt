-- Extents in the order of their ranks.
use Rattle.std.proofs.Common.{◌≡◌, ℕ, ◌<◌, ◌≤◌, ◌⊎◌, inl, inr, false, List, length, get_or, refl, subst, sym, ◌∙◌, arith, AllPairs}
use Rattle.std.specs.Cmp.{IsTotalOrder}
use Rattle.std.proofs.Common.{Ordering}
use Rattle.std.specs.Ordering.{is_lt, nat_cmp, ordering_then}
use Rattle.std.specs.List.{range_with_len}
use Rattle.std.specs.List.Sorted.{IsPermutation, IsSortedByKey}
use Rattle.std.specs.declared.cmp.Reverse.{Reverse}
use Rattle.std.proofs.lemmas.Cmp.{back_total, by_ranked, nat_cmp_total, on_total, ranked, then_total}
use Rattle.std.proofs.lemmas.List.FromFn.{length-range_with_len}
use Rattle.std.proofs.lemmas.List.Sorted.{length_permutation, ranks_by, sorted_far}
use Rattle.aff_model.specs.declared.extent.Extent.{Extent}
use Rattle.aff_model.specs.Index.{extent_at}
use Rattle.aff_plan.specs.Order.{IsBefore, IsOrderOf, rank_of}

abbrev pub compare_ranks : Reverse ℕ × ℕ → Reverse ℕ × ℕ → Ordering
compare_ranks x y = ordering_then (nat_cmp y.0.0 x.0.0) (nat_cmp x.1 y.1)

total : IsTotalOrder compare_ranks
total = then_total (back_total (on_total (λ (r : Reverse ℕ × ℕ). r.0.0) nat_cmp_total)) (on_total (λ (r : Reverse ℕ × ℕ). r.1) nat_cmp_total)

not_later : (m n : ℕ) → is_lt (nat_cmp n m) ≡ false → m ≤ n
not_later m n test = by_ranked (n < m) (n ≡ m) (m < n) (nat_cmp n m) (ranked n m (nat_cmp n m) refl)
    (λ is less. absurd (cc (subst (λ o. is_lt o ≡ false) is test)))
    (λ is equal. omega (arith, equal))
    (λ is greater. omega (arith, greater))

-- of two ranks the second is not before the first
not_before : (p q a b : ℕ) → is_lt (ordering_then (nat_cmp p q) (nat_cmp b a)) ≡ false → (q < p) ⊎ ((p ≡ q) × (a ≤ b))
not_before p q a b test = by_ranked (p < q) (p ≡ q) (q < p) (nat_cmp p q) (ranked p q (nat_cmp p q) refl)
    (λ is less. absurd (cc (subst (λ o. is_lt (ordering_then o (nat_cmp b a)) ≡ false) is test)))
    (λ is equal. inr (equal, not_later a b (subst (λ o. is_lt (ordering_then o (nat_cmp b a)) ≡ false) is test)))
    (λ is greater. inl greater)

pub falls : (es : List Extent) (order : List ℕ) → IsSortedByKey (rank_of es) compare_ranks order → AllPairs (λ i j. IsBefore (extent_at es i) (extent_at es j)) order
falls es order sorted = λ i j d before below.
    let at = sorted_far (λ x y. is_lt (compare_ranks (rank_of es x) (rank_of es y))) (ranks_by total (rank_of es)) order sorted i j d (omega arith) below in
    let e = extent_at es (get_or order i d) in
    let f = extent_at es (get_or order j d) in
    not_before e.priority f.priority e.at f.at at

-- the numbers of all extents, sorted by their ranks
pub order_of : (es : List Extent) (numbers order : List ℕ) → numbers ≡ range_with_len 0 (length es) → IsPermutation numbers order → IsSortedByKey (rank_of es) compare_ranks order → IsOrderOf es order
order_of es numbers order are moved sorted =
    let from_range : IsPermutation (range_with_len 0 (length es)) order = subst (λ xs. IsPermutation xs order) are moved in
    let long : length order ≡ length es = length_permutation _ _ from_range ∙ length-range_with_len 0 (length es) in
    record {
      numbers = subst (λ n. IsPermutation (range_with_len 0 n) order) (sym long) from_range;
      all = long;
      falls = falls es order sorted;
    }
