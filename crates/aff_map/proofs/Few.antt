-- One or two publications that have a map.
use Rattle.std.proofs.Common.{◌≡◌, ◌≢◌, ℕ, zero, suc, ◌<◌, ◌^◌, false, List, [], ◌∷◌, length, get_or, map, refl, sym, ap, ◌∙◌, subst, arith, nat_eq, lit<}
use Rattle.std.specs.Prelude.{Option, Some, slice_get, MatchOption}
use Rattle.std.specs.declared.sync.Arc.{Arc}
use Rattle.std.specs.List.{All}
use Rattle.std.specs.List.Sorted.{IsStrictlyIncreasing}
use Rattle.std.proofs.lemmas.Bool.Decides.{nat_tests}
use Rattle.std.proofs.lemmas.List.Elements.{All-cons, All-nil}
use Rattle.std.proofs.lemmas.Map.Keys.{IsDistinct-from_apart}
use Rattle.aff_model.specs.declared.extent.Extent.{Extent}
use Rattle.aff_model.specs.declared.publication.Place.{Place}
use Rattle.aff_model.specs.declared.publication.Place.TheVariants.{Chunk}
use Rattle.aff_model.specs.Plan.{chunk_count}
use Rattle.aff_model.specs.History.{Part, Published}
use Rattle.aff_model.specs.Pieces.{published}
use Rattle.aff_map.specs.Mappable.{AreMappable, IsMappable, IsNumbered}

has_map : (extents : List Extent) (p : Published) (e : Extent) → slice_get extents p.extent ≡ Some e → IsMappable e p → MatchOption (slice_get extents p.extent) ⊥ (λ f. IsMappable f p)
has_map extents p e at mappable = subst (λ (o : Option Extent). MatchOption o ⊥ (λ f. IsMappable f p)) (sym at) mappable

pub AreMappable-one : (extents : List Extent) (p : Published) (e : Extent) → slice_get extents p.extent ≡ Some e → IsMappable e p → AreMappable extents (p ∷ [])
AreMappable-one extents p e at mappable = record {
  once = IsDistinct-from_apart nat_eq (p.extent ∷ []) (λ i j d h below. absurd (omega (arith, h, below)));
  published = All-cons (λ q. MatchOption (slice_get extents q.extent) ⊥ (λ f. IsMappable f q)) p [] (has_map extents p e at mappable) (All-nil (λ q. MatchOption (slice_get extents q.extent) ⊥ (λ f. IsMappable f q)));
}

differ : (x y : ℕ) → x ≢ y → nat_eq x y ≡ false
differ x y h = grind (arith, nat_tests)

apart_pair : (x y : ℕ) → x ≢ y → (i j d : ℕ) → i < j → j < 2 → nat_eq (get_or (x ∷ y ∷ []) i d) (get_or (x ∷ y ∷ []) j d) ≡ false
apart_pair x y other i j d h below =
    let first : i ≡ 0 = omega (arith, h, below) in
    let second : j ≡ 1 = omega (arith, h, below) in
    rw (first, second) (differ x y other)

pub AreMappable-two : (extents : List Extent) (p q : Published) (e f : Extent) → p.extent ≢ q.extent → slice_get extents p.extent ≡ Some e → slice_get extents q.extent ≡ Some f → IsMappable e p → IsMappable f q → AreMappable extents (p ∷ q ∷ [])
AreMappable-two extents p q e f other at_p at_q is_p is_q = record {
  once = IsDistinct-from_apart nat_eq (p.extent ∷ q.extent ∷ []) (apart_pair p.extent q.extent other);
  published = All-cons (λ r. MatchOption (slice_get extents r.extent) ⊥ (λ g. IsMappable g r)) p (q ∷ []) (has_map extents p e at_p is_p)
      (All-cons (λ r. MatchOption (slice_get extents r.extent) ⊥ (λ g. IsMappable g r)) q [] (has_map extents q f at_q is_q) (All-nil (λ r. MatchOption (slice_get extents r.extent) ⊥ (λ g. IsMappable g r))));
}

-- what one or two pieces are, by how a list of them was made
pub AreMappable-alone : {R Z : Type 0} (extents given : List Extent) (pieces items : List (Arc (Part R) Z)) (a : Arc (Part R) Z) (len : ℕ) (bad : List ℕ) (places : List Place)
    → extents ≡ given → given ≡ record { at = 0; len = len; priority = 0 } ∷ [] → pieces ≡ items → items ≡ a ∷ []
    → published a ≡ record { extent = 0; claimant = 0; swept = false; bad = bad; places = places }
    → IsStrictlyIncreasing bad → length places ≡ chunk_count len → All IsNumbered places → AreMappable extents (map published pieces)
AreMappable-alone {R} {Z} extents given pieces items a len bad places same are read is told rising count numbered =
    let p : Published = record { extent = 0; claimant = 0; swept = false; bad = bad; places = places } in
    let e : Extent = record { at = 0; len = len; priority = 0 } in
    subst (λ (es : List Extent). AreMappable es (map published pieces)) (sym (same ∙ are))
    (subst (λ (some : List (Arc (Part R) Z)). AreMappable (e ∷ []) (map published some)) (sym (read ∙ is))
    (subst (λ (q : Published). AreMappable (e ∷ []) (q ∷ [])) (sym told)
    (AreMappable-one (e ∷ []) p e refl (record { rising = rising; count = count; numbered = numbered }))))

-- an extent of a chunk, and a publication of it
one_chunk : (extent c : ℕ) (e : Extent) → e.len ≡ 32768 → c < 2 ^ 48 → IsMappable e (record { extent = extent; claimant = 0; swept = false; bad = []; places = Chunk c ∷ [] })
one_chunk extent c e long small = record {
  rising = λ k below. absurd (omega arith);
  count = ap chunk_count (sym long);
  numbered = All-cons IsNumbered (Chunk c) [] small (All-nil IsNumbered);
}

both_chunks : (e f : Extent) → e.len ≡ 32768 → f.len ≡ 32768 → (n : ℕ) → n < 2 → (g : Extent) × (slice_get (e ∷ f ∷ []) n ≡ Some g) × (g.len ≡ 32768)
both_chunks e f is_e is_f zero below = (e, refl, is_e)
both_chunks e f is_e is_f (suc zero) below = (f, refl, is_f)
both_chunks e f is_e is_f (suc (suc n)) below = absurd (omega arith)

pub AreMappable-pair : {R Z : Type 0} (extents given : List Extent) (pieces items : List (Arc (Part R) Z)) (a b : Arc (Part R) Z) (e f : Extent) (first second : ℕ)
    → extents ≡ given → given ≡ e ∷ f ∷ [] → e.len ≡ 32768 → f.len ≡ 32768 → pieces ≡ items → items ≡ a ∷ b ∷ []
    → published a ≡ record { extent = first; claimant = 0; swept = false; bad = []; places = Chunk 0 ∷ [] }
    → published b ≡ record { extent = second; claimant = 0; swept = false; bad = []; places = Chunk 1 ∷ [] }
    → first ≢ second → first < 2 → second < 2 → AreMappable extents (map published pieces)
AreMappable-pair {R} {Z} extents given pieces items a b e f first second same are is_e is_f read is told_a told_b other low_a low_b =
    let p : Published = record { extent = first; claimant = 0; swept = false; bad = []; places = Chunk 0 ∷ [] } in
    let q : Published = record { extent = second; claimant = 0; swept = false; bad = []; places = Chunk 1 ∷ [] } in
    let g = both_chunks e f is_e is_f first low_a in
    let h = both_chunks e f is_e is_f second low_b in
    subst (λ (es : List Extent). AreMappable es (map published pieces)) (sym (same ∙ are))
    (subst (λ (some : List (Arc (Part R) Z)). AreMappable (e ∷ f ∷ []) (map published some)) (sym (read ∙ is))
    (subst (λ (r : Published). AreMappable (e ∷ f ∷ []) (r ∷ published b ∷ [])) (sym told_a)
    (subst (λ (r : Published). AreMappable (e ∷ f ∷ []) (p ∷ r ∷ [])) (sym told_b)
    (AreMappable-two (e ∷ f ∷ []) p q g.0 h.0 other g.1 h.1 (one_chunk first 0 g.0 g.2 (lit< tt)) (one_chunk second 1 h.0 h.2 (lit< tt))))))
