-- An index of extents by place, and what its order says of the extents.
use Rattle.std.proofs.Common.{◌≡◌, ◌≢◌, ℕ, ◌+◌, ◌-◌, ◌<◌, ◌≤◌, inl, inr, nat_eq, List, [], ◌∷◌, ◌++◌, length, get_or, take, sym, ap, subst, ◌∙◌, zero-add, arith, All, AllPairs, Contains}
use Rattle.std.specs.List.{range_with_len, IsDistinct}
use Rattle.std.proofs.lemmas.Bool.Decides.{leb_tells, nat_tests}
use Rattle.std.proofs.lemmas.List.{get_or_default, get_or-take, length-take-le, map-id, take_more}
use Rattle.std.proofs.lemmas.List.FromFn.{get_or-range_with_len, length-range_with_len, map-range_with_len_more}
use Rattle.std.proofs.lemmas.List.Quantifiers.{all_pairs_push}
use Rattle.std.proofs.lemmas.List.Sorted.{All-permutation, Contains-permutation, length_permutation}
use Rattle.std.proofs.lemmas.Map.Keys.{IsDistinct-from_apart, IsDistinct-IsPermutation, apart_from_distinct}
use Rattle.aff_model.specs.declared.extent.Extent.{Extent}
use Rattle.aff_model.specs.Index.{no_extent, IsIndex, HasBytes, extent_at, start_of, end_of}
use Rattle.aff_model.specs.Plan.{AreApart}

pub length-index : (es : List Extent) (index : List ℕ) → IsIndex es index → length index ≡ length es
length-index es index h = length_permutation _ _ h.numbers ∙ length-range_with_len 0 (length es)

flip_apart : (e f : Extent) → AreApart e f → AreApart f e
flip_apart e f h = elim h [ inl x ↦ inr x | inr y ↦ inl y ]

-- each number of an index is that of an extent
pub number_below : (es : List Extent) (index : List ℕ) → IsIndex es index → (k d : ℕ) → k < length index → get_or index k d < length es
number_below es index h k d b =
    All-permutation (λ n. n < length es) _ _ h.numbers
    (λ i e l. let n = length-range_with_len 0 (length es) in let w : i < length es = omega arith in
    let g = get_or-range_with_len 0 (length es) i e w in omega arith)
    k d b

-- each extent's number stands in the index
pub place_of : (es : List Extent) (index : List ℕ) → IsIndex es index → (k : ℕ) → k < length es → Contains index k
place_of es index h k b =
    Contains-permutation _ _ k h.numbers
    (k, (let n = length-range_with_len 0 (length es) in omega arith), get_or-range_with_len 0 (length es) k k b ∙ zero-add k)

pub range-IsDistinct : (n : ℕ) → IsDistinct nat_eq (range_with_len 0 n)
range-IsDistinct n = IsDistinct-from_apart nat_eq _
    (λ i j d b l.
    let count = length-range_with_len 0 n in
    let inside : j < n = omega arith in
    let before : i < n = omega arith in
    let x = get_or-range_with_len 0 n i d before in
    let y = get_or-range_with_len 0 n j d inside in
    grind (arith, nat_tests))

-- two places have two numbers
pub numbers_differ : (es : List Extent) (index : List ℕ) → IsIndex es index → (i j d : ℕ) → i < j → j < length index → get_or index i d ≢ get_or index j d
numbers_differ es index h i j d b l same =
    let other = apart_from_distinct nat_eq index i j d
    (IsDistinct-IsPermutation nat_eq (λ x y. grind (arith, nat_tests)) _ _ h.numbers (range-IsDistinct (length es))) b l in
    grind (arith, nat_tests)

-- each extent ends before the next one by place begins, up to a place of the index
abbrev pub Rises : List Extent → List ℕ → ℕ → Type 0
Rises es index n = (k : ℕ) → k + 1 < n → end_of es (get_or index k 0) ≤ start_of es (get_or index (k + 1) 0)

-- then an extent ends before any later one by place begins
pub ends_before : (es : List Extent) (index : List ℕ) → IsIndex es index → Rises es index (length index) → (p q : ℕ) → p < q → q < length index → end_of es (get_or index p 0) ≤ start_of es (get_or index q 0)
ends_before es index h rises p q b l =
    omega (arith, rises p (omega arith), h.sorted (p + 1) q 0 (omega arith) l)

apart_by_place : (es : List Extent) (index : List ℕ) → IsIndex es index → Rises es index (length index) → (p q : ℕ) → p < length index → q < length index → p ≢ q → AreApart (extent_at es (get_or index p 0)) (extent_at es (get_or index q 0))
apart_by_place es index h rises p q pb qb ne = elim (leb_tells p q) [
  | inl x ↦ inl (ends_before es index h rises p q (omega arith) qb)
  | inr y ↦ inr (ends_before es index h rises q p (omega arith) pb)
]

apart_at : (es : List Extent) (index : List ℕ) → IsIndex es index → Rises es index (length index) → (i j : ℕ) → i ≢ j → i < length es → j < length es → AreApart (extent_at es i) (extent_at es j)
apart_at es index h rises i j ne ib jb =
    let p = place_of es index h i ib in
    let q = place_of es index h j jb in
    let pi : get_or index p.0 0 ≡ i = get_or_default index p.0 0 i p.1 ∙ p.2 in
    let qj : get_or index q.0 0 ≡ j = get_or_default index q.0 0 j q.1 ∙ q.2 in
    let other : p.0 ≢ q.0 = λ e. ne (sym pi ∙ ap (λ k. get_or index k 0) e ∙ qj) in
    let P : ℕ → ℕ → Type 0 = λ a b. AreApart (extent_at es a) (extent_at es b) in
    let at_places : P (get_or index p.0 0) (get_or index q.0 0) = apart_by_place es index h rises p.0 q.0 p.1 q.1 other in
    subst (λ b. P i b) qj (subst (λ a. P a (get_or index q.0 0)) pi at_places)

pub apart-from_rises : (es : List Extent) (index : List ℕ) → IsIndex es index → Rises es index (length index) → AllPairs AreApart es
apart-from_rises es index h rises i j d b l =
    let ib : i < length es = omega arith in
    let other : i ≢ j = omega arith in
    rw (get_or_default es i d no_extent ib, get_or_default es j d no_extent l) (apart_at es index h rises i j other ib l)

-- of two extents that are apart, in either order of their numbers
either_way : (es : List Extent) → AllPairs AreApart es → (i j : ℕ) → i ≢ j → i < length es → j < length es → AreApart (extent_at es i) (extent_at es j)
either_way es apart i j ne ib jb = elim (leb_tells i j) [
  | inl x ↦ apart i j no_extent (omega arith) jb
  | inr y ↦ flip_apart (extent_at es j) (extent_at es i) (apart j i no_extent (omega arith) ib)
]

pub rises-from_apart : (es : List Extent) (index : List ℕ) → IsIndex es index → All HasBytes es → AllPairs AreApart es → Rises es index (length index)
rises-from_apart es index h bytes apart k l =
    let a = get_or index k 0 in
    let b = get_or index (k + 1) 0 in
    let ne : a ≢ b = numbers_differ es index h k (k + 1) 0 (omega arith) l in
    let ab : a < length es = number_below es index h k 0 (omega arith) in
    let bb : b < length es = number_below es index h (k + 1) 0 l in
    let up : start_of es a ≤ start_of es b = h.sorted k (k + 1) 0 (omega arith) l in
    elim (either_way es apart a b ne ab bb) [
      | inl x ↦ x
      | inr y ↦ (let some = bytes b no_extent bb in omega arith)
    ]

-- two neighbours of an index that are not apart
pub meet-not_apart : (es : List Extent) (index : List ℕ) → IsIndex es index → All HasBytes es → (k : ℕ) → 1 ≤ k → k < length index → start_of es (get_or index k 0) < end_of es (get_or index (k - 1) 0) → ¬ (AllPairs AreApart es)
meet-not_apart es index h bytes k some l meet apart =
    let back : k - 1 + 1 ≡ k = omega arith in
    let up : end_of es (get_or index (k - 1) 0) ≤ start_of es (get_or index (k - 1 + 1) 0) = rises-from_apart es index h bytes apart (k - 1) (omega arith) in
    let P : ℕ → Type 0 = λ n. end_of es (get_or index (k - 1) 0) ≤ start_of es (get_or index n 0) in
    let up_at : P k = subst P back up in
    omega (arith, up_at)

pub range_with_len-more : (n : ℕ) → range_with_len 0 (n + 1) ≡ range_with_len 0 n ++ n ∷ []
range_with_len-more n =
    sym (map-id (range_with_len 0 (n + 1))) ∙ map-range_with_len_more (λ k. k) 0 n n (zero-add n) ∙ ap (λ l. l ++ n ∷ []) (map-id (range_with_len 0 n))

-- one more extent that shares no byte with those before it
pub apart-more : (es : List Extent) (j : ℕ) → j < length es → AllPairs AreApart (take j es) → ((k : ℕ) → k < j → AreApart (extent_at es k) (extent_at es j)) → AllPairs AreApart (take (j + 1) es)
apart-more es j b before with_last =
    rw (take_more es j no_extent b)
    (all_pairs_push AreApart (take j es) (extent_at es j) before
    (λ k d l.
    let n : length (take j es) ≡ j = length-take-le j es (omega arith) in
    let kj : k < j = omega arith in
    let inside : k < length es = omega arith in
    rw (get_or-take j es k d kj, get_or_default es k d no_extent inside) (with_last k kj)))
