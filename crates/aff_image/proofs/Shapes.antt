-- What the publications of readings have, as a map of them wants it: unreadable sectors that rise, a place for each chunk,
-- and low chunk numbers.
use Rattle.std.proofs.Common.{◌≡◌, ℕ, ◌+◌, ◌<◌, ◌≤◌, List, [], ◌∷◌, length, get_or, drop, sym, ap, subst, arith, length-append}
use Rattle.std.specs.Prelude.{Option, All, MatchOption, slice_get}
use Rattle.std.specs.List.{range_with_len}
use Rattle.std.specs.List.Sorted.{IsStrictlyIncreasing}
use Rattle.std.proofs.lemmas.List.Elements.{All-cons, All-nil}
use Rattle.aff_model.specs.declared.extent.Extent.{Extent}
use Rattle.aff_model.specs.declared.limits.TheConstants.{MAX_CHUNKS}
use Rattle.aff_model.specs.declared.publication.Place.{Place}
use Rattle.aff_model.specs.declared.publication.Place.TheVariants.{Zero, Chunk, Nothing}
use Rattle.aff_model.specs.Content.{Content}
use Rattle.aff_model.specs.History.{Published}
use Rattle.aff_model.specs.Legal.{numbers_of}
use Rattle.aff_model.specs.Plan.{Planned, IsPlan, chunk_count}
use Rattle.aff_image.specs.Witnesses.{Witnessed, AreWitnessed, history_of, kept_of, kept_chunks}
use Rattle.aff_image.proofs.Counts.{few_kept}
use Rattle.aff_image.proofs.Kept.{length-kept_of}
use Rattle.aff_image.proofs.Rows.{AreInRow, in_row}

-- the chunk's number is below a limit
abbrev pub IsBelow : ℕ → Place → Type 0
IsBelow limit Zero = Unit {0}
IsBelow limit Nothing = Unit {0}
IsBelow limit (Chunk c) = c < limit

pub record HasShape (e : Extent) (p : Published) : Type 0 where
  pub rising : IsStrictlyIncreasing p.bad
  pub count : length p.places ≡ chunk_count e.len
  pub below : All (IsBelow MAX_CHUNKS) p.places

-- a publication of its extent
abbrev pub IsShaped : List Extent → Published → Type 0
IsShaped extents p = MatchOption (slice_get extents p.extent) ⊥ (λ e. HasShape e p)

-- numbers in a row that end low are low
below_row : (limit first : ℕ) (places : List Place) → numbers_of places ≡ range_with_len first (length (numbers_of places)) → first + length (numbers_of places) ≤ limit → All (IsBelow limit) places
below_row limit first [] row low = All-nil (IsBelow limit)
below_row limit first (Zero ∷ places) row low = All-cons (IsBelow limit) Zero places tt (below_row limit first places row low)
below_row limit first (Nothing ∷ places) row low = All-cons (IsBelow limit) Nothing places tt (below_row limit first places row low)
below_row limit first (Chunk c ∷ places) row low =
    let own : c ≡ first = ap (λ v. get_or v 0 0) row in
    All-cons (IsBelow limit) (Chunk c) places (omega (arith, own, low)) (below_row limit (first + 1) places (ap (drop 1) row) (omega (arith, low)))

shaped_along : (case : Option Content) (plan : Planned) (first : ℕ) (readings : List Witnessed) → AreInRow case plan first readings → first + length (kept_chunks readings) ≤ MAX_CHUNKS
    → All (IsShaped plan.extents) (history_of readings)
shaped_along case plan first [] rows low = All-nil (IsShaped plan.extents)
shaped_along case plan first (r ∷ readings) rows low =
    let p = r.published in
    let count : length (kept_chunks (r ∷ readings)) ≡ length (numbers_of p.places) + length (kept_chunks readings) = omega (arith, length-append (kept_of r) (kept_chunks readings), length-kept_of r) in
    All-cons (IsShaped plan.extents) p (history_of readings)
    (subst (λ o. MatchOption o ⊥ (λ e. HasShape e p)) (sym rows.0.planned) (record {
      rising = rows.0.reading.fits.rising;
      count = rows.0.reading.count;
      below = below_row MAX_CHUNKS first p.places rows.0.numbered (omega (arith, low, count));
    }))
    (shaped_along case plan (first + length (numbers_of p.places)) readings rows.1 (omega (arith, low, count)))

pub shaped : (case : Option Content) (plan : Planned) (workers : ℕ) (readings : List Witnessed) → IsPlan plan.size plan.block plan.extents → AreWitnessed case plan workers readings
    → All (IsShaped plan.extents) (history_of readings)
shaped case plan workers readings is_plan are =
    shaped_along case plan 0 readings (in_row case plan is_plan 0 readings are.each are.numbered) (omega (arith, few_kept case plan workers readings is_plan are))
