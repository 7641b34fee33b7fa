-- Readings of a plan's extents one after another, each with its extent and with the numbers that its chunks go on from.
use Rattle.std.proofs.Common.{◌≡◌, ◌≢◌, ℕ, ◌+◌, ◌<◌, List, [], ◌∷◌, ◌++◌, length, get_or, refl, ap, subst, ◌∙◌, arith, inl, inr}
use Rattle.std.specs.Prelude.{◌⊎◌, Option, Some, None, All, AllPairs, MatchOption, slice_get}
use Rattle.std.specs.List.{range_with_len}
use Rattle.std.proofs.lemmas.List.Elements.{All-head, All-tail}
use Rattle.std.proofs.lemmas.Option.{slice_get_within, get_or_from_slice_get}
use Rattle.aff_model.specs.declared.extent.Extent.{Extent}
use Rattle.aff_model.specs.Content.{Content}
use Rattle.aff_model.specs.Legal.{numbers_of, chunk_numbers}
use Rattle.aff_model.specs.Plan.{Planned, IsExtent, IsPlan, AreApart}
use Rattle.aff_model.proofs.Sectors.{IsSectored, sectored}
use Rattle.aff_image.specs.Sound.{IsReading}
use Rattle.aff_image.specs.Witnesses.{Witnessed, IsWitnessed, history_of}

-- what holds of all elements holds of the one of a number
pub all_at : {X : Type 0} (P : X → Type 0) (xs : List X) (n : ℕ) (x : X) → All P xs → slice_get xs n ≡ Some x → P x
all_at P xs n x all at = subst P (get_or_from_slice_get xs n x x at) (all n x (slice_get_within xs n x at))

-- two extents of a plan are apart
pub apart_at : (extents : List Extent) (n m : ℕ) (e f : Extent) → AllPairs AreApart extents → n ≢ m → slice_get extents n ≡ Some e → slice_get extents m ≡ Some f → AreApart e f
apart_at extents n m e f apart other at_n at_m = elim (order n m other) [
  | inl before ↦ pair n m e f before at_n at_m
  | inr behind ↦ flip (pair m n f e behind at_m at_n)
]
  where
    order : (n m : ℕ) → n ≢ m → (n < m) ⊎ (m < n)
    order n m other = grind (arith, other)

    flip : AreApart f e → AreApart e f
    flip (inl h) = inr h
    flip (inr h) = inl h

    pair : (n m : ℕ) (e f : Extent) → n < m → slice_get extents n ≡ Some e → slice_get extents m ≡ Some f → AreApart e f
    pair n m e f before at_n at_m =
        subst (λ v. AreApart v f) (get_or_from_slice_get extents n e f at_n)
        (subst (λ v. AreApart (get_or extents n f) v) (get_or_from_slice_get extents m f f at_m) (apart n m f before (slice_get_within extents m f at_m)))

-- a reading with its extent, whose chunks are numbered from a first number on
pub record IsRow (case : Option Content) (plan : Planned) (first : ℕ) (r : Witnessed) : Type 0 where
  pub extent : Extent
  pub planned : slice_get plan.extents r.published.extent ≡ Some extent
  pub sectors : IsSectored plan.size extent
  pub reading : IsReading case plan.block extent r.bytes r.published.bad r.published.places
  pub numbered : numbers_of r.published.places ≡ range_with_len first (length (numbers_of r.published.places))

abbrev pub AreInRow : Option Content → Planned → ℕ → List Witnessed → Type 0
AreInRow case plan first [] = Unit {0}
AreInRow case plan first (r ∷ readings) = IsRow case plan first r × AreInRow case plan (first + length (numbers_of r.published.places)) readings

-- numbers in a row, in two parts
pub row_split : (a : ℕ) (xs ys : List ℕ) → xs ++ ys ≡ range_with_len a (length (xs ++ ys)) → (xs ≡ range_with_len a (length xs)) × (ys ≡ range_with_len (a + length xs) (length ys))
row_split a [] ys is = let none : a ≡ a + 0 = omega arith in (refl, is ∙ ap (λ n. range_with_len n (length ys)) none)
row_split a (x ∷ xs) ys is =
    let first : x ≡ a = cc in
    let later : xs ++ ys ≡ range_with_len (a + 1) (length (xs ++ ys)) = cc in
    let parts = row_split (a + 1) xs ys later in
    let next : a + 1 + length xs ≡ a + length (x ∷ xs) = omega arith in
    ((λ i. first i ∷ parts.0 i), parts.1 ∙ ap (λ n. range_with_len n (length ys)) next)

module _ (case : Option Content) (plan : Planned) (is_plan : IsPlan plan.size plan.block plan.extents) where
  one_row : (first : ℕ) (r : Witnessed) (o : Option Extent) → slice_get plan.extents r.published.extent ≡ o
      → MatchOption o ⊥ (λ e. IsReading case plan.block e r.bytes r.published.bad r.published.places)
      → numbers_of r.published.places ≡ range_with_len first (length (numbers_of r.published.places)) → IsRow case plan first r
  one_row first r None at reading numbered = absurd reading
  one_row first r (Some e) at reading numbered = record {
    extent = e;
    planned = at;
    sectors = sectored plan.size plan.block e is_plan.is_block (all_at (IsExtent plan.size plan.block) plan.extents r.published.extent e is_plan.each at);
    reading = reading;
    numbered = numbered;
  }

  pub in_row : (first : ℕ) (readings : List Witnessed) → All (IsWitnessed case plan) readings
      → chunk_numbers (history_of readings) ≡ range_with_len first (length (chunk_numbers (history_of readings))) → AreInRow case plan first readings
  in_row first [] each numbered = tt
  in_row first (r ∷ readings) each numbered =
      let parts = row_split first (numbers_of r.published.places) (chunk_numbers (history_of readings)) numbered in (
        one_row first r (slice_get plan.extents r.published.extent) refl (All-head (IsWitnessed case plan) r readings each) parts.0,
        in_row (first + length (numbers_of r.published.places)) readings (All-tail (IsWitnessed case plan) r readings each) parts.1,
      )
