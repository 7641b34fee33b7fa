-- Readings one after another: with one more at the end, and some first of them.
use Rattle.std.proofs.Common.{◌≡◌, ◌≢◌, ℕ, zero, suc, ◌+◌, ◌<◌, List, [], ◌∷◌, ◌++◌, length, get_or, take, drop, refl, sym, ap, subst, ◌∙◌, arith, append-nil, length-append, length-take}
use Rattle.std.specs.Prelude.{Option, AllPairs, Contains, nat_eq}
use Rattle.std.specs.List.{IsDistinct, range_with_len}
use Rattle.std.proofs.Math.Seq.{take-append_seam}
use Rattle.std.proofs.lemmas.Bool.Decides.{Decides-eqb}
use Rattle.std.proofs.lemmas.List.{get_or-take, get_or_default, map-append, take-map, take-append-drop}
use Rattle.std.proofs.lemmas.List.Concat.{flat_map-append}
use Rattle.std.proofs.lemmas.List.Elements.{All-nil, All-push, All-take}
use Rattle.std.proofs.lemmas.List.Quantifiers.{all_pairs_push}
use Rattle.std.proofs.lemmas.Map.Made.{AllPairs-from_IsDistinct, IsDistinct-from_AllPairs}
use Rattle.aff_model.specs.Content.{Content}
use Rattle.aff_model.specs.Held.{Held}
use Rattle.aff_model.specs.History.{Published}
use Rattle.aff_model.specs.Legal.{AreCounted, IsClaimant, numbers_of, chunk_numbers}
use Rattle.aff_model.specs.Plan.{Planned}
use Rattle.aff_model.proofs.Once.{extents_of}
use Rattle.aff_spec.specs.Appends.{applied, Reaches}
use Rattle.aff_spec.specs.Bevvies.{more_appends, written}
use Rattle.aff_spec.proofs.Appends.{applied-append, Reaches-after}
use Rattle.aff_spec.proofs.Writing.{written-more}
use Rattle.aff_image.specs.Witnesses.{Witnessed, AreWitnessed, IsWitnessed, history_of, kept_of, kept_chunks}
use Rattle.aff_image.proofs.Kept.{length-kept_chunks}
use Rattle.aff_image.proofs.Rows.{row_split}

-- numbers in a row, in two parts
pub row_join : (a m n : ℕ) → range_with_len a m ++ range_with_len (a + m) n ≡ range_with_len a (m + n)
row_join a zero n =
    let first : a + 0 ≡ a = omega arith in
    let count : n ≡ 0 + n = omega arith in
    λ i. range_with_len (first i) (count i)
row_join a (suc m) n =
    let first : a + suc m ≡ (a + 1) + m = omega arith in
    let count : suc (m + n) ≡ suc m + n = omega arith in
    ap (λ b. a ∷ (range_with_len (a + 1) m ++ range_with_len b n)) first ∙ ap (λ v. a ∷ v) (row_join (a + 1) m n) ∙ ap (range_with_len a) count

-- what one reading more adds
pub history_of-push : (readings : List Witnessed) (r : Witnessed) → history_of (readings ++ r ∷ []) ≡ history_of readings ++ r.published ∷ []
history_of-push readings r = map-append (λ x. x.published) readings (r ∷ [])

pub kept_chunks-push : (readings : List Witnessed) (r : Witnessed) → kept_chunks (readings ++ r ∷ []) ≡ kept_chunks readings ++ kept_of r
kept_chunks-push readings r = flat_map-append kept_of readings (r ∷ []) ∙ ap (λ v. kept_chunks readings ++ v) (append-nil (kept_of r))

chunk_numbers-push : (history : List Published) (p : Published) → chunk_numbers (history ++ p ∷ []) ≡ chunk_numbers history ++ numbers_of p.places
chunk_numbers-push history p = flat_map-append (λ x. numbers_of x.places) history (p ∷ []) ∙ ap (λ v. chunk_numbers history ++ v) (append-nil (numbers_of p.places))

-- distinct numbers with one more, and some first of them
distinct_push : (xs : List ℕ) (x : ℕ) → IsDistinct nat_eq xs → ¬ (Contains xs x) → IsDistinct nat_eq (xs ++ x ∷ [])
distinct_push xs x once new =
    IsDistinct-from_AllPairs Decides-eqb (xs ++ x ∷ [])
    (all_pairs_push (λ a b. a ≢ b) xs x (AllPairs-from_IsDistinct Decides-eqb xs once)
    (λ k d below same. new (k, below, get_or_default xs k x d below ∙ same)))

all_pairs_take : (R : ℕ → ℕ → Type 0) (n : ℕ) (xs : List ℕ) → AllPairs R xs → AllPairs R (take n xs)
all_pairs_take R n xs pairs i j d low below =
    let high : j < n = omega (arith, below, length-take n xs) in
    let there : j < length xs = omega (arith, below, length-take n xs) in
    subst (λ v. R v (get_or (take n xs) j d)) (sym (get_or-take n xs i d (omega (arith, low, high))))
    (subst (λ v. R (get_or xs i d) v) (sym (get_or-take n xs j d high)) (pairs i j d low there))

distinct_take : (n : ℕ) (xs : List ℕ) → IsDistinct nat_eq xs → IsDistinct nat_eq (take n xs)
distinct_take n xs once = IsDistinct-from_AllPairs Decides-eqb (take n xs) (all_pairs_take (λ a b. a ≢ b) n xs (AllPairs-from_IsDistinct Decides-eqb xs once))

none_distinct : IsDistinct nat_eq []
unfolding IsDistinct
none_distinct = tt

-- nothing was read yet
pub none_witnessed : (case : Option Content) (plan : Planned) (workers : ℕ) → AreWitnessed case plan workers []
none_witnessed case plan workers = record {
  each = All-nil (IsWitnessed case plan);
  claimants = All-nil (λ r. IsClaimant workers r.published);
  once = none_distinct;
  numbered = refl;
}

-- nothing was stored yet
pub stored-none : (stream : List ℕ) (old held : Held) → held ≡ old → held ≡ applied old (written stream (kept_chunks []))
stored-none stream old held same = same

module _ (case : Option Content) (plan : Planned) (workers : ℕ) (readings : List Witnessed) (are : AreWitnessed case plan workers readings) where
  -- some first readings
  pub take_witnessed : (n : ℕ) → AreWitnessed case plan workers (take n readings)
  take_witnessed n =
      let first = chunk_numbers (history_of (take n readings)) in
      let rest = chunk_numbers (history_of (drop n readings)) in
      let cut : chunk_numbers (history_of readings) ≡ first ++ rest =
      ap (λ v. chunk_numbers (history_of v)) (sym (take-append-drop n readings))
      ∙ ap chunk_numbers (map-append (λ x. x.published) (take n readings) (drop n readings))
      ∙ flat_map-append (λ x. numbers_of x.places) (history_of (take n readings)) (history_of (drop n readings)) in
      record {
        each = All-take (IsWitnessed case plan) n readings are.each;
        claimants = All-take (λ r. IsClaimant workers r.published) n readings are.claimants;
        once = subst (IsDistinct nat_eq) (take-map (λ p. p.extent) n (history_of readings) ∙ ap extents_of (take-map (λ x. x.published) n readings)) (distinct_take n (extents_of (history_of readings)) are.once);
        numbered = (row_split 0 first rest (subst AreCounted cut are.numbered)).0;
      }

  -- one reading more: of an extent that was not read yet, its chunks numbered from the count of those before
  module _ (r : Witnessed) where
    pub push_witnessed : IsWitnessed case plan r → IsClaimant workers r.published → ¬ (Contains (extents_of (history_of readings)) r.published.extent)
        → numbers_of r.published.places ≡ range_with_len (length (kept_chunks readings)) (length (numbers_of r.published.places)) → AreWitnessed case plan workers (readings ++ r ∷ [])
    push_witnessed is claimant new numbered =
        let numbers = chunk_numbers (history_of readings) in
        let own = numbers_of r.published.places in
        let all : chunk_numbers (history_of (readings ++ r ∷ [])) ≡ numbers ++ own = ap chunk_numbers (history_of-push readings r) ∙ chunk_numbers-push (history_of readings) r.published in
        let next : own ≡ range_with_len (0 + length numbers) (length own) =
        numbered ∙ ap (λ n. range_with_len n (length own)) (length-kept_chunks readings ∙ omega arith) in
        record {
          each = All-push (IsWitnessed case plan) readings r are.each is;
          claimants = All-push (λ x. IsClaimant workers x.published) readings r are.claimants claimant;
          once = subst (IsDistinct nat_eq) (sym (ap extents_of (history_of-push readings r) ∙ map-append (λ p. p.extent) (history_of readings) (r.published ∷ [])))
              (distinct_push (extents_of (history_of readings)) r.published.extent are.once new);
          numbered = subst AreCounted (sym all)
              ((λ i. are.numbered i ++ next i) ∙ row_join 0 (length numbers) (length own) ∙ ap (range_with_len 0) (sym (length-append numbers own)));
        }

-- readings that others follow
pub front_witnessed : (case : Option Content) (plan : Planned) (workers : ℕ) (front rest : List Witnessed) → AreWitnessed case plan workers (front ++ rest) → AreWitnessed case plan workers front
front_witnessed case plan workers front rest are =
    subst (AreWitnessed case plan workers) (take-append_seam front rest) (take_witnessed case plan workers (front ++ rest) are (length front))

-- a reading's appends stand behind those of the readings before it
module _ (stream : List ℕ) (readings : List Witnessed) (r : Witnessed) where
  pub written-push : written stream (kept_chunks (readings ++ r ∷ [])) ≡ written stream (kept_chunks readings) ++ more_appends stream (kept_chunks readings) (kept_of r)
  written-push = ap (written stream) (kept_chunks-push readings r) ∙ written-more stream (kept_chunks readings) (kept_of r)

  -- all of them were made
  pub stored-push : (old held new : Held) → held ≡ applied old (written stream (kept_chunks readings)) → new ≡ applied held (more_appends stream (kept_chunks readings) (kept_of r))
      → new ≡ applied old (written stream (kept_chunks (readings ++ r ∷ [])))
  stored-push old held new before now =
      now ∙ ap (λ h. applied h (more_appends stream (kept_chunks readings) (kept_of r))) before
      ∙ sym (applied-append old (written stream (kept_chunks readings)) (more_appends stream (kept_chunks readings) (kept_of r)))
      ∙ ap (applied old) (sym written-push)

  -- some first of them were made, perhaps with a prefix of the next one
  pub reached-push : (old held new : Held) → held ≡ applied old (written stream (kept_chunks readings)) → Reaches held (more_appends stream (kept_chunks readings) (kept_of r)) new
      → Reaches old (written stream (kept_chunks (readings ++ r ∷ []))) new
  reached-push old held new before now =
      subst (λ v. Reaches old v new) (sym written-push)
      (Reaches-after old (written stream (kept_chunks readings)) (more_appends stream (kept_chunks readings) (kept_of r)) new
      (subst (λ h. Reaches h (more_appends stream (kept_chunks readings) (kept_of r)) new) before now))

-- nothing more was made
pub reached-still : (stream : List ℕ) (readings : List Witnessed) (old held : Held) → held ≡ applied old (written stream (kept_chunks readings))
    → Reaches old (written stream (kept_chunks readings)) held
reached-still stream readings old held before =
    subst (λ v. Reaches old v held) (append-nil (written stream (kept_chunks readings))) (Reaches-after old (written stream (kept_chunks readings)) [] held before)
