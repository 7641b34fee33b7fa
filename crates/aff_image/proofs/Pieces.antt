-- Sound pieces are readings: each keeps the bytes that witness it.
use Rattle.std.proofs.Common.{◌≡◌, ℕ, List, [], ◌∷◌, ◌++◌, map, refl, sym, ap, subst, ◌∙◌}
use Rattle.std.specs.Prelude.{Bool, Option, None, Some, All, IfSome, IsTrue, MatchOption, nat_eq, slice_get}
use Rattle.std.specs.List.{IsDistinct, flat_map}
use Rattle.std.proofs.lemmas.List.{map-append}
use Rattle.std.proofs.lemmas.List.Elements.{All-cons, All-head, All-nil, All-tail}
use Rattle.sha2.specs.Sha256.{sha256}
use Rattle.aff_model.specs.declared.extent.Extent.{Extent}
use Rattle.aff_model.specs.declared.publication.Place.{Place}
use Rattle.aff_model.specs.Content.{Content}
use Rattle.aff_model.specs.History.{Part, publication_of}
use Rattle.aff_model.specs.Legal.{AreCounted, IsClaimant, chunk_numbers}
use Rattle.aff_model.specs.Plan.{Planned}
use Rattle.aff_model.proofs.Once.{extents_of}
use Rattle.aff_image.specs.Sound.{AreSound, IsReading, IsSound}
use Rattle.aff_image.specs.Witnesses.{Witnessed, AreWitnessed, IsWitnessed, history_of, kept_of, kept_chunks}

-- a publication of an extent of a plan that was read so
pub is_witnessed : (case : Option Content) (plan : Planned) (r : Witnessed) (e : Extent) → slice_get plan.extents r.published.extent ≡ Some e
    → IsReading case plan.block e r.bytes r.published.bad r.published.places → IsWitnessed case plan r
is_witnessed case plan r e at reading = subst (λ o. MatchOption o ⊥ (λ x. IsReading case plan.block x r.bytes r.published.bad r.published.places)) (sym at) reading

-- what holds of what some elements are mapped to
unmapped : {X Y : Type 0} (P : X → Type 0) (f : Y → X) (ys : List Y) → All P (map f ys) → All (λ y. P (f y)) ys
unmapped P f [] all = All-nil (λ y. P (f y))
unmapped P f (y ∷ ys) all = All-cons (λ y. P (f y)) y ys (All-head P (f y) (map f ys) all) (unmapped P f ys (All-tail P (f y) (map f ys) all))

-- what was read of a device that tells the run's content was read of that content
pub reading-told : (case own : Option Content) (block : ℕ) (e : Extent) (bytes bad : List ℕ) (places : List Place) → IfSome case (λ c. own ≡ Some c)
    → IsReading own block e bytes bad places → IsReading case block e bytes bad places
reading-told None own block e bytes bad places told one = record {
  len = one.len;
  fits = record { rising = one.fits.rising; inside = one.fits.inside; together = one.fits.together; weak = tt; every_bad = tt };
  known = tt;
  zero = one.zero;
  count = one.count;
  placed = one.placed;
}
reading-told (Some c) own block e bytes bad places told one = subst (λ o. IsReading o block e bytes bad places) told one

module _ (case : Option Content) (plan : Planned) (tells : Bool) {R : Type 0} (told : R → List ℕ) where
  -- readings of pieces: their publications, and as chunks what the receipts tell, with their digests
  pub record HasWitnesses (pieces : List (Part R)) : Type 0 where
    pub readings : List Witnessed
    pub history : history_of readings ≡ map publication_of pieces
    pub each : All (IsWitnessed case plan) readings
    pub digests : flat_map (λ p. p.digests) pieces ≡ map sha256 (kept_chunks readings)
    pub told_chunks : IsTrue tells → flat_map (λ p. map told p.receipts) pieces ≡ kept_chunks readings

  add : (p : Part R) (pieces : List (Part R)) (o : Option Extent) → slice_get plan.extents p.extent ≡ o → MatchOption o ⊥ (λ e. IsSound case plan.block e tells told p) → HasWitnesses pieces → HasWitnesses (p ∷ pieces)
  add p pieces None at sound has = absurd sound
  add p pieces (Some e) at sound has =
      let r : Witnessed = record { published = publication_of p; bytes = sound.bytes } in
      record {
        readings = r ∷ has.readings;
        history = ap (λ v. publication_of p ∷ v) has.history;
        each = All-cons (IsWitnessed case plan) r has.readings (is_witnessed case plan r e at sound.reading) has.each;
        digests = (λ i. sound.digests i ++ has.digests i) ∙ sym (map-append sha256 (kept_of r) (kept_chunks has.readings));
        told_chunks = λ t i. sound.told_chunks t i ++ has.told_chunks t i;
      }

  abbrev IsSoundOne : Part R → Type 0
  IsSoundOne p = MatchOption (slice_get plan.extents p.extent) ⊥ (λ e. IsSound case plan.block e tells told p)

  pub witnesses : (pieces : List (Part R)) → AreSound case plan tells told pieces → HasWitnesses pieces
  witnesses [] sound = record { readings = []; history = refl; each = All-nil (IsWitnessed case plan); digests = refl; told_chunks = λ t. refl }
  witnesses (p ∷ pieces) sound =
      add p pieces (slice_get plan.extents p.extent) refl (All-head IsSoundOne p pieces sound) (witnesses pieces (All-tail IsSoundOne p pieces sound))

  -- and where each extent stands once, and chunks are numbered in a row, they are readings of a run
  pub witnesses-are : (workers : ℕ) (pieces : List (Part R)) (has : HasWitnesses pieces) → All (IsClaimant workers) (map publication_of pieces)
      → IsDistinct nat_eq (extents_of (map publication_of pieces)) → AreCounted (chunk_numbers (map publication_of pieces)) → AreWitnessed case plan workers has.readings
  witnesses-are workers pieces has claimants once numbered = record {
    each = has.each;
    claimants = unmapped (IsClaimant workers) (λ r. r.published) has.readings (subst (All (IsClaimant workers)) (sym has.history) claimants);
    once = subst (λ h. IsDistinct nat_eq (extents_of h)) (sym has.history) once;
    numbered = subst (λ h. AreCounted (chunk_numbers h)) (sym has.history) numbered;
  }
