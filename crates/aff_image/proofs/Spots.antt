-- Where the bytes of an image are after readings in any order, and what they read as there.
use Rattle.std.proofs.Common.{◌≡◌, ◌≢◌, ℕ, ◌+◌, ◌/◌, ◌<◌, ◌≤◌, ◌==◌, true, false, ◌||◌, cond, List, [], ◌∷◌, ◌++◌, length, get_or, refl, sym, ap, subst, ◌∙◌, arith, append_assoc, length-append, inl, inr}
use Rattle.std.specs.Prelude.{Bool, Option, Some, None, AllPairs, IsTrue, nat_eq, slice_get}
use Rattle.std.specs.List.{AllByRecursion, list_any}
use Rattle.std.proofs.lemmas.Bool.{or_parts, true≢false}
use Rattle.std.proofs.Math.Bool.{or-false}
use Rattle.std.proofs.lemmas.List.Folds.{Any-from_list_any, list_any_at}
use Rattle.std.proofs.lemmas.List.Elements.{All-contains}
use Rattle.std.proofs.lemmas.Map.Keys.{IsDistinct-head, IsDistinct-tail}
use Rattle.std.proofs.lemmas.Option.{slice_get-get_or, slice_get_within, get_or_from_slice_get}
use Rattle.aff_model.specs.declared.cell.Cell.TheVariants.{Byte, Unreadable, Unknown}
use Rattle.aff_model.specs.declared.extent.Extent.{Extent}
use Rattle.aff_model.specs.Cells.{cell_of, cell_by, is_bad_at, content_of, sector_in}
use Rattle.aff_model.specs.Content.{Content}
use Rattle.aff_model.specs.History.{Published, readings_of, last_ones}
use Rattle.aff_model.specs.Legal.{Fits, IsComplete, are_done, numbers_of}
use Rattle.aff_model.specs.Plan.{Planned, has_place, IsPlan, AreApart}
use Rattle.aff_model.proofs.Find.{has_place-outside}
use Rattle.aff_model.proofs.Once.{AreOnce, extents_of, last_ones-once}
use Rattle.aff_model.proofs.Sectors.{IsSectored}
use Rattle.aff_spec.specs.Runs.{history_spot, spot_by, published_spot}
use Rattle.aff_spec.specs.Unreadable.{is_unreadable, is_unreadable_by}
use Rattle.aff_spec.proofs.Streams.{ReadsAs}
use Rattle.aff_image.specs.Witnesses.{Witnessed, AreWitnessed, history_of, kept_of, kept_chunks}
use Rattle.aff_image.proofs.Cells.{CellReads, has_place_from, has_place_to, published_reads}
use Rattle.aff_image.proofs.Contents.{not_same}
use Rattle.aff_image.proofs.Kept.{length-kept_of}
use Rattle.aff_image.proofs.Legals.{Decides-has, rows_of}
use Rattle.aff_image.proofs.Rows.{AreInRow, apart_at}
use Rattle.aff_image.proofs.Sectors.{is_marked, not_marked, marked_alike}

-- the spot of a place is that of the cell which the history has there
module _ (stream : ℕ → Option ℕ) (c : Content) (plan : Planned) (i : ℕ) where
  cells_along : (before : List (List ℕ)) (readings : List Witnessed) → AreInRow (Some c) plan (length before) readings → ReadsAs stream (before ++ kept_chunks readings)
      → CellReads stream i (history_spot plan.extents (history_of readings) i) (cell_of c plan.extents (history_of readings) i)
  cells_along before [] rows reads = refl
  cells_along before (r ∷ readings) rows reads =
      let e = rows.0.extent in
      let p = r.published in
      let spots = history_spot plan.extents (history_of readings) i in
      let cells = cell_of c plan.extents (history_of readings) i in
      let count : length before + length (numbers_of p.places) ≡ length (before ++ kept_of r) = omega (arith, length-append before (kept_of r), length-kept_of r) in
      subst (λ o. CellReads stream i (spot_by o p i spots) (cell_by c o p i cells)) (sym rows.0.planned)
      (elim (has_place i e) as (λ b. has_place i e ≡ b → CellReads stream i (cond b (published_spot e p i) spots) (cond b (cond (is_bad_at e p i) Unreadable (Byte (c.byte i))) cells)) [
        | true ↦ λ has. published_reads stream c plan i r before (kept_chunks readings) rows.0 has reads
        | false ↦ λ lacks. cells_along (before ++ kept_of r) readings (subst (λ n. AreInRow (Some c) plan n readings) count rows.1)
            (subst (ReadsAs stream) (sym (append_assoc before (kept_of r) (kept_chunks readings))) reads)
      ] refl)

-- the cell of a place by its extents and by the marks of its sector
module _ (c : Content) (plan : Planned) (apart : AllPairs AreApart plan.extents) (i : ℕ) where
  abbrev has_by : Option Extent → Bool
  has_by None = false
  has_by (Some e) = has_place i e

  -- the place is in an extent that was read
  abbrev is_read : List Witnessed → Bool
  is_read [] = false
  is_read (r ∷ readings) = has_by (slice_get plan.extents r.published.extent) || is_read readings

  abbrev marks : List Witnessed → Bool
  marks readings = is_unreadable plan.extents (history_of readings) (i / 512)

  -- of a place in an extent, no other extent has the place
  lacks : (e f : Extent) → has_place i e ≡ true → AreApart e f → has_place i f ≡ false
  lacks e f has (inl behind) = has_place-outside f i (inl (omega (arith, has_place_to i e has, behind)))
  lacks e f has (inr ahead) = has_place-outside f i (inr (omega (arith, has_place_from i e has, ahead)))

  lacks_by : (n m : ℕ) (e : Extent) (o : Option Extent) → n ≢ m → slice_get plan.extents n ≡ Some e → slice_get plan.extents m ≡ o → has_place i e ≡ true → has_by o ≡ false
  lacks_by n m e None other at_n at_m has = refl
  lacks_by n m e (Some f) other at_n at_m has = lacks e f has (apart_at plan.extents n m e f apart other at_n at_m)

  others_lack : (n : ℕ) (e : Extent) → slice_get plan.extents n ≡ Some e → has_place i e ≡ true → (readings : List Witnessed)
      → AllByRecursion (λ m. nat_eq n m ≡ false) (extents_of (history_of readings)) → is_read readings ≡ false
  others_lack n e at has [] new = refl
  others_lack n e at has (r ∷ readings) new =
      ap (λ b. b || is_read readings) (lacks_by n r.published.extent e (slice_get plan.extents r.published.extent) (not_same n r.published.extent new.0) at refl has)
      ∙ others_lack n e at has readings new.1

  -- the sector of a place outside all extents is marked by none
  none_marks : (first : ℕ) (readings : List Witnessed) → AreInRow (Some c) plan first readings → is_read readings ≡ false → marks readings ≡ false
  none_marks first [] rows none = refl
  none_marks first (r ∷ readings) rows none =
      let e = rows.0.extent in
      let parts = or_parts (has_place i e) (is_read readings) (sym (ap (λ o. has_by o || is_read readings) rows.0.planned) ∙ none) in
      ap (λ o. is_unreadable_by o r.published (i / 512) || marks readings) rows.0.planned
      ∙ ap (λ b. b || marks readings) (not_marked plan.size i e r.published.bad rows.0.sectors rows.0.reading.fits.inside parts.0)
      ∙ none_marks (first + length (numbers_of r.published.places)) readings rows.1 parts.1

  marks_along : (first : ℕ) (readings : List Witnessed) → AreInRow (Some c) plan first readings → AreOnce (history_of readings)
      → cell_of c plan.extents (history_of readings) i ≡ cond (is_read readings) (cond (marks readings) Unreadable (Byte (c.byte i))) Unknown
  marks_along first [] rows once = refl
  marks_along first (r ∷ readings) rows once =
      let e = rows.0.extent in
      let p = r.published in
      let own = is_marked e p.bad (i / 512) in
      let later = first + length (numbers_of p.places) in
      let cells = cell_of c plan.extents (history_of readings) i in
      let new = IsDistinct-head nat_eq p.extent (extents_of (history_of readings)) once in
      subst (λ o. cell_by c o p i cells ≡ cond (has_by o || is_read readings) (cond (is_unreadable_by o p (i / 512) || marks readings) Unreadable (Byte (c.byte i))) Unknown) (sym rows.0.planned)
      (elim (has_place i e) as (λ b. has_place i e ≡ b
      → cond b (cond (is_bad_at e p i) Unreadable (Byte (c.byte i))) cells ≡ cond (b || is_read readings) (cond (own || marks readings) Unreadable (Byte (c.byte i))) Unknown) [
        | true ↦ λ has.
            let alike : (own || marks readings) ≡ is_bad_at e p i =
            ap (λ b. own || b) (none_marks later readings rows.1 (others_lack p.extent e rows.0.planned has readings new))
            ∙ or-false own ∙ marked_alike e p.bad i (has_place_from i e has) in
            ap (λ b. cond b Unreadable (Byte (c.byte i))) (sym alike)
        | false ↦ λ lacking.
            marks_along later readings rows.1 (IsDistinct-tail nat_eq p.extent (extents_of (history_of readings)) once)
            ∙ ap (λ b. cond (is_read readings) (cond (b || marks readings) Unreadable (Byte (c.byte i))) Unknown) (sym (not_marked plan.size i e p.bad rows.0.sectors rows.0.reading.fits.inside lacking))
      ] refl)

  -- a place outside the plan was not read
  none_read : list_any (has_place i) plan.extents ≡ false → (readings : List Witnessed) → is_read readings ≡ false
  none_read none [] = refl
  none_read none (r ∷ readings) = ap (λ b. b || is_read readings) (out (slice_get plan.extents r.published.extent) refl) ∙ none_read none readings
    where
      is_out : (e : Extent) → slice_get plan.extents r.published.extent ≡ Some e → (b : Bool) → has_place i e ≡ b → b ≡ false
      is_out e at true has =
          let n = r.published.extent in
          let there : has_place i (get_or plan.extents n e) ≡ true = ap (has_place i) (get_or_from_slice_get plan.extents n e e at) ∙ has in
          absurd (true≢false (sym (list_any_at (has_place i) plan.extents n e (slice_get_within plan.extents n e at) there) ∙ none))
      is_out e at false has = refl

      out : (o : Option Extent) → slice_get plan.extents r.published.extent ≡ o → has_by o ≡ false
      out None at = refl
      out (Some e) at = is_out e at (has_place i e) refl

  -- a place of an extent that stands in the history was read
  some_read : (n : ℕ) (e : Extent) → slice_get plan.extents n ≡ Some e → has_place i e ≡ true → (readings : List Witnessed)
      → IsTrue (are_done (readings_of (history_of readings) n)) → is_read readings ≡ true
  some_read n e at has [] done = absurd (true≢false (sym done))
  some_read n e at has (r ∷ readings) done =
      elim (r.published.extent == n) as (λ b. (r.published.extent == n) ≡ b → IsTrue (are_done (cond b (r.published ∷ readings_of (history_of readings) n) (readings_of (history_of readings) n))) → is_read (r ∷ readings) ≡ true) [
        | true ↦ λ same is. ap (λ o. has_by o || is_read readings) (ap (slice_get plan.extents) (number same) ∙ at) ∙ ap (λ b. b || is_read readings) has
        | false ↦ λ other is. or_true (has_by (slice_get plan.extents r.published.extent)) (is_read readings) (some_read n e at has readings is)
      ] refl done
    where
      number : (r.published.extent == n) ≡ true → r.published.extent ≡ n
      number same = grind (arith, same)

      or_true : (a b : Bool) → b ≡ true → (a || b) ≡ true
      or_true true b h = refl
      or_true false b h = h

  complete_read : (readings : List Witnessed) → IsComplete plan.extents (history_of readings) → is_read readings ≡ list_any (has_place i) plan.extents
  complete_read readings complete =
      elim (list_any (has_place i) plan.extents) as (λ b. list_any (has_place i) plan.extents ≡ b → is_read readings ≡ b) [
        | true ↦ λ some.
            let any = Any-from_list_any (has_place i) plan.extents some in
            some_read any.0 any.1 (slice_get-get_or plan.extents any.0 any.1 any.2 ∙ ap Some any.3) any.4 readings (complete any.0 any.2)
        | false ↦ λ none. none_read none readings
      ] refl

-- where weak sectors are bad, the sectors that could not be read are the bad ones
module _ (c : Content) (plan : Planned) (same : (s : ℕ) → c.weak s ≡ c.bad s) (apart : AllPairs AreApart plan.extents) (i : ℕ) where
  marked_bad : (e : Extent) (p : Published) → IsSectored plan.size e → Fits (Some c) plan.block e p.bad → has_place i e ≡ true → is_bad_at e p i ≡ c.bad (i / 512)
  marked_bad e p is fits has = by (is_bad_at e p i) refl (c.bad (i / 512)) refl
    where
      low : e.at ≤ i
      low = has_place_from i e has

      place : e.at / 512 + sector_in e i ≡ i / 512
      place = omega (arith, low)

      inside : sector_in e i < e.len / 512
      inside = omega (arith, low, has_place_to i e has, is.at_whole, is.len_whole)

      by : (b : Bool) → is_bad_at e p i ≡ b → (d : Bool) → c.bad (i / 512) ≡ d → b ≡ d
      by true marked true bad = refl
      by true marked false good =
          sym (All-contains (λ s. IsTrue (c.weak (e.at / 512 + s))) p.bad (sector_in e i) fits.weak ((Decides-has (sector_in e i) p.bad).0 marked))
          ∙ ap c.weak place ∙ same (i / 512) ∙ good
      by false unmarked true bad = absurd (true≢false (sym ((Decides-has (sector_in e i) p.bad).1 (fits.every_bad (sector_in e i) inside (ap c.bad place ∙ bad))) ∙ unmarked))
      by false unmarked false good = refl

  bad_along : (first : ℕ) (readings : List Witnessed) → AreInRow (Some c) plan first readings
      → cell_of c plan.extents (history_of readings) i ≡ cond (is_read c plan apart i readings) (cond (c.bad (i / 512)) Unreadable (Byte (c.byte i))) Unknown
  bad_along first [] rows = refl
  bad_along first (r ∷ readings) rows =
      let e = rows.0.extent in
      let p = r.published in
      let cells = cell_of c plan.extents (history_of readings) i in
      let others = is_read c plan apart i readings in
      subst (λ o. cell_by c o p i cells ≡ cond (has_by c plan apart i o || others) (cond (c.bad (i / 512)) Unreadable (Byte (c.byte i))) Unknown) (sym rows.0.planned)
      (elim (has_place i e) as (λ b. has_place i e ≡ b
      → cond b (cond (is_bad_at e p i) Unreadable (Byte (c.byte i))) cells ≡ cond (b || others) (cond (c.bad (i / 512)) Unreadable (Byte (c.byte i))) Unknown) [
        | true ↦ λ has. ap (λ b. cond b Unreadable (Byte (c.byte i))) (marked_bad e p rows.0.sectors rows.0.reading.fits has)
        | false ↦ λ lacking. bad_along (first + length (numbers_of p.places)) readings rows.1
      ] refl)

-- readings of a content
module _ (c : Content) (plan : Planned) (workers : ℕ) (readings : List Witnessed) (is_plan : IsPlan plan.size plan.block plan.extents) (are : AreWitnessed (Some c) plan workers readings) where
  -- the spot of each place reads as its cell, by any stream that reads as the kept chunks
  pub cell_reads : (stream : ℕ → Option ℕ) (i : ℕ) → ReadsAs stream (kept_chunks readings)
      → CellReads stream i (history_spot plan.extents (last_ones (history_of readings)) i) (cell_of c plan.extents (last_ones (history_of readings)) i)
  cell_reads stream i reads =
      subst (λ h. CellReads stream i (history_spot plan.extents h i) (cell_of c plan.extents h i)) (sym (last_ones-once (history_of readings) are.once))
      (cells_along stream c plan i [] readings (rows_of c plan workers readings is_plan are) reads)

  -- a complete history has at each place what was acquired
  pub cell_acquired : (i : ℕ) → IsComplete plan.extents (history_of readings)
      → cell_of c plan.extents (last_ones (history_of readings)) i ≡ content_of c plan.extents (is_unreadable plan.extents (last_ones (history_of readings))) i
  cell_acquired i complete =
      subst (λ h. cell_of c plan.extents h i ≡ content_of c plan.extents (is_unreadable plan.extents h) i) (sym (last_ones-once (history_of readings) are.once))
      (marks_along c plan is_plan.apart i 0 readings (rows_of c plan workers readings is_plan are) are.once
      ∙ ap (λ b. cond b (cond (is_unreadable plan.extents (history_of readings) (i / 512)) Unreadable (Byte (c.byte i))) Unknown) (complete_read c plan is_plan.apart i readings complete))

  -- so the spot of each place reads as what was acquired
  pub acquired_reads : (stream : ℕ → Option ℕ) (i : ℕ) → IsComplete plan.extents (history_of readings) → ReadsAs stream (kept_chunks readings)
      → CellReads stream i (history_spot plan.extents (last_ones (history_of readings)) i) (content_of c plan.extents (is_unreadable plan.extents (last_ones (history_of readings))) i)
  acquired_reads stream i complete reads =
      subst (CellReads stream i (history_spot plan.extents (last_ones (history_of readings)) i)) (cell_acquired i complete) (cell_reads stream i reads)

  -- and where weak sectors are bad, it is the content with its bad sectors unreadable, whoever read what and when
  pub cell_bad : ((s : ℕ) → c.weak s ≡ c.bad s) → (i : ℕ) → IsComplete plan.extents (history_of readings)
      → cell_of c plan.extents (last_ones (history_of readings)) i ≡ content_of c plan.extents c.bad i
  cell_bad same i complete =
      ap (λ h. cell_of c plan.extents h i) (last_ones-once (history_of readings) are.once)
      ∙ bad_along c plan same is_plan.apart i 0 readings (rows_of c plan workers readings is_plan are)
      ∙ ap (λ b. cond b (cond (c.bad (i / 512)) Unreadable (Byte (c.byte i))) Unknown) (complete_read c plan is_plan.apart i readings complete)
