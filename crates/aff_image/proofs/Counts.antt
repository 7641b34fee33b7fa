-- How many chunks readings keep: no more than the extents of the plan have.
use Rattle.std.proofs.Common.{◌≡◌, ℕ, zero, suc, ◌+◌, ◌≤◌, false, nat_eq, List, [], ◌∷◌, length, refl, sym, ap, arith, length-append}
use Rattle.std.specs.Prelude.{Option, None, Some, slice_get}
use Rattle.std.specs.List.{AllByRecursion, IsDistinct}
use Rattle.std.proofs.lemmas.List.Sums.{sum_by-cons}
use Rattle.std.proofs.lemmas.Map.Keys.{IsDistinct-cons, IsDistinct-head, IsDistinct-tail}
use Rattle.aff_model.specs.declared.extent.Extent.{Extent}
use Rattle.aff_model.specs.declared.limits.TheConstants.{MAX_CHUNKS}
use Rattle.aff_model.specs.declared.publication.Place.{Place}
use Rattle.aff_model.specs.declared.publication.Place.TheVariants.{Zero, Chunk, Nothing}
use Rattle.aff_model.specs.Content.{Content}
use Rattle.aff_model.specs.Legal.{numbers_of}
use Rattle.aff_model.specs.Plan.{Planned, IsPlan, chunk_count, chunks_of}
use Rattle.aff_model.proofs.Once.{extents_of}
use Rattle.aff_model.proofs.Totals.{plan_chunks}
use Rattle.aff_image.specs.Witnesses.{Witnessed, AreWitnessed, history_of, kept_of, kept_chunks}
use Rattle.aff_image.proofs.Kept.{length-kept_of}
use Rattle.aff_image.proofs.Rows.{AreInRow, in_row}

-- the chunks of the extents of some numbers
abbrev chunks_by : Option Extent → ℕ
chunks_by None = 0
chunks_by (Some e) = chunk_count e.len

abbrev chunks_at : List Extent → List ℕ → ℕ
chunks_at extents [] = 0
chunks_at extents (n ∷ numbers) = chunks_by (slice_get extents n) + chunks_at extents numbers

-- the numbers behind 0, counted from the next one, and as often c as 0 stands among them
abbrev downs : List ℕ → List ℕ
downs [] = []
downs (zero ∷ numbers) = downs numbers
downs (suc n ∷ numbers) = n ∷ downs numbers

abbrev firsts : ℕ → List ℕ → ℕ
firsts c [] = 0
firsts c (zero ∷ numbers) = c + firsts c numbers
firsts c (suc n ∷ numbers) = firsts c numbers

chunks_at-cons : (x : Extent) (extents : List Extent) (numbers : List ℕ) → chunks_at (x ∷ extents) numbers ≡ firsts (chunk_count x.len) numbers + chunks_at extents (downs numbers)
chunks_at-cons x extents [] = refl
chunks_at-cons x extents (zero ∷ numbers) = omega (arith, chunks_at-cons x extents numbers)
chunks_at-cons x extents (suc n ∷ numbers) = omega (arith, chunks_at-cons x extents numbers)

chunks_at-none : (numbers : List ℕ) → chunks_at [] numbers ≡ 0
chunks_at-none [] = refl
chunks_at-none (n ∷ numbers) = omega (arith, chunks_at-none numbers)

no_first : (c : ℕ) (numbers : List ℕ) → AllByRecursion (λ m. nat_eq 0 m ≡ false) numbers → firsts c numbers ≡ 0
no_first c [] new = refl
no_first c (zero ∷ numbers) new = absurd (cc (new.0))
no_first c (suc n ∷ numbers) new = no_first c numbers new.1

one_first : (c : ℕ) (numbers : List ℕ) → IsDistinct nat_eq numbers → firsts c numbers ≤ c
one_first c [] once = omega arith
one_first c (zero ∷ numbers) once = omega (arith, no_first c numbers (IsDistinct-head nat_eq 0 numbers once))
one_first c (suc n ∷ numbers) once = one_first c numbers (IsDistinct-tail nat_eq (suc n) numbers once)

down : (n m : ℕ) → nat_eq (suc n) (suc m) ≡ false → nat_eq n m ≡ false
down n m h = grind (arith, h)

downs-new : (n : ℕ) (numbers : List ℕ) → AllByRecursion (λ m. nat_eq (suc n) m ≡ false) numbers → AllByRecursion (λ m. nat_eq n m ≡ false) (downs numbers)
downs-new n [] new = tt
downs-new n (zero ∷ numbers) new = downs-new n numbers new.1
downs-new n (suc m ∷ numbers) new = (down n m new.0, downs-new n numbers new.1)

none_distinct : IsDistinct nat_eq []
unfolding IsDistinct
none_distinct = tt

downs-once : (numbers : List ℕ) → IsDistinct nat_eq numbers → IsDistinct nat_eq (downs numbers)
downs-once [] once = none_distinct
downs-once (zero ∷ numbers) once = downs-once numbers (IsDistinct-tail nat_eq 0 numbers once)
downs-once (suc n ∷ numbers) once =
    IsDistinct-cons nat_eq n (downs numbers) (downs-new n numbers (IsDistinct-head nat_eq (suc n) numbers once)) (downs-once numbers (IsDistinct-tail nat_eq (suc n) numbers once))

-- distinct numbers have no more chunks than all
chunks_at-few : (extents : List Extent) (numbers : List ℕ) → IsDistinct nat_eq numbers → chunks_at extents numbers ≤ chunks_of extents
chunks_at-few [] numbers once = omega (arith, chunks_at-none numbers)
chunks_at-few (x ∷ extents) numbers once =
    omega (
      arith,
      chunks_at-cons x extents numbers,
      one_first (chunk_count x.len) numbers once,
      chunks_at-few extents (downs numbers) (downs-once numbers once),
      sum_by-cons (λ e. chunk_count e.len) x extents,
    )

-- not all places have a number
pub few_numbers : (places : List Place) → length (numbers_of places) ≤ length places
few_numbers [] = omega arith
few_numbers (Zero ∷ places) = omega (arith, few_numbers places)
few_numbers (Nothing ∷ places) = omega (arith, few_numbers places)
few_numbers (Chunk c ∷ places) = omega (arith, few_numbers places)

kept_few : (case : Option Content) (plan : Planned) (first : ℕ) (readings : List Witnessed) → AreInRow case plan first readings
    → length (kept_chunks readings) ≤ chunks_at plan.extents (extents_of (history_of readings))
kept_few case plan first [] rows = omega arith
kept_few case plan first (r ∷ readings) rows =
    let own : chunk_count rows.0.extent.len ≡ chunks_by (slice_get plan.extents r.published.extent) = ap chunks_by (sym rows.0.planned) in
    omega (
      arith,
      own,
      length-append (kept_of r) (kept_chunks readings),
      length-kept_of r,
      few_numbers r.published.places,
      rows.0.reading.count,
      kept_few case plan (first + length (numbers_of r.published.places)) readings rows.1,
    )

-- readings keep at most the chunks of the plan
pub few_kept : (case : Option Content) (plan : Planned) (workers : ℕ) (readings : List Witnessed) → IsPlan plan.size plan.block plan.extents → AreWitnessed case plan workers readings
    → length (kept_chunks readings) ≤ MAX_CHUNKS
few_kept case plan workers readings is_plan are =
    let kept = kept_few case plan 0 readings (in_row case plan is_plan 0 readings are.each are.numbered) in
    let few = chunks_at-few plan.extents (extents_of (history_of readings)) are.once in
    let all = plan_chunks plan.size plan.block plan.extents is_plan in
    omega (arith, kept, few, all)
