-- Places of chunks, one after another.
use Rattle.std.proofs.Common.{◌≡◌, ℕ, ◌+◌, ◌<◌, Bool, true, false, nat_lt, List, [], ◌∷◌, ◌++◌, length, take, get_or, refl, sym, ap, subst, ◌∙◌, arith, length-append}
use Rattle.std.specs.List.{range_with_len}
use Rattle.std.proofs.Math.ListN.{get_or-append}
use Rattle.std.proofs.Math.Seq.{get_or-append_seam}
use Rattle.std.proofs.lemmas.List.{take_more}
use Rattle.aff_model.specs.declared.publication.Place.{Place}
use Rattle.aff_model.specs.Legal.{numbers_of}
use Rattle.aff_chunk.specs.declared.kind.Cut.{Cut}
use Rattle.aff_spec.proofs.Chunks.{numbers_of-append}
use Rattle.aff_image.proofs.Growth.{row_join}
use Rattle.aff_store.specs.Pieces.{IsPlaceOf, ArePlaces}

-- the numbers of one place more
pub length-numbers_more : (places : List Place) (p : Place) → length (numbers_of (places ++ p ∷ [])) ≡ length (numbers_of places) + length (numbers_of (p ∷ []))
length-numbers_more places p = ap length (numbers_of-append places (p ∷ [])) ∙ length-append (numbers_of places) (numbers_of (p ∷ []))

module _ (first : ℕ) (cuts : List Cut) (places : List Place) (are : ArePlaces first cuts places) (c : Cut) (p : Place) (one : IsPlaceOf c p) where
  kept_more : (j : ℕ) (d : Cut) (q : Place) → j < length (cuts ++ c ∷ []) → (b : Bool) → nat_lt j (length cuts) ≡ b → IsPlaceOf (get_or (cuts ++ c ∷ []) j d) (get_or (places ++ p ∷ []) j q)
  kept_more j d q below true e =
      let low : j < length cuts = grind (arith, e) in
      subst (λ x. IsPlaceOf x (get_or (places ++ p ∷ []) j q)) (sym (get_or-append cuts (c ∷ []) d j low))
      (subst (IsPlaceOf (get_or cuts j d)) (sym (get_or-append places (p ∷ []) q j (omega (arith, low, are.count)))) (are.kept j d q low))
  kept_more j d q below false e =
      let at : j ≡ length cuts = grind (arith, e, below, length-append cuts (c ∷ [])) in
      let there : j ≡ length places = omega (arith, at, are.count) in
      subst (λ x. IsPlaceOf x (get_or (places ++ p ∷ []) j q)) (sym (ap (λ n. get_or (cuts ++ c ∷ []) n d) at ∙ get_or-append_seam cuts c [] d))
      (subst (IsPlaceOf c) (sym (ap (λ n. get_or (places ++ p ∷ []) n q) there ∙ get_or-append_seam places p [] q)) one)

  -- one chunk more
  ArePlaces-more : numbers_of (p ∷ []) ≡ range_with_len (first + length (numbers_of places)) (length (numbers_of (p ∷ []))) → ArePlaces first (cuts ++ c ∷ []) (places ++ p ∷ [])
  ArePlaces-more numbered = record {
    count = omega (arith, are.count, length-append places (p ∷ []), length-append cuts (c ∷ []));
    kept = λ j d q below. kept_more j d q below (nat_lt j (length cuts)) refl;
    numbered =
        numbers_of-append places (p ∷ []) ∙ (λ i. are.numbered i ++ numbered i)
        ∙ row_join first (length (numbers_of places)) (length (numbers_of (p ∷ [])))
        ∙ ap (range_with_len first) (sym (length-numbers_more places p));
  }

-- the next chunk of a list
pub ArePlaces-next : (first : ℕ) (cuts : List Cut) (k : ℕ) (d : Cut) (places : List Place) (p : Place) → k < length cuts → ArePlaces first (take k cuts) places → IsPlaceOf (get_or cuts k d) p
    → numbers_of (p ∷ []) ≡ range_with_len (first + length (numbers_of places)) (length (numbers_of (p ∷ []))) → ArePlaces first (take (k + 1) cuts) (places ++ p ∷ [])
ArePlaces-next first cuts k d places p below are kept numbered =
    subst (λ v. ArePlaces first v (places ++ p ∷ [])) (sym (take_more cuts k d below)) (ArePlaces-more first (take k cuts) places are (get_or cuts k d) p kept numbered)
