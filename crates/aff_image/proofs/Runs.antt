-- The entries of the map of a complete image are runs of it over its chunks.
use Rattle.std.proofs.Common.{◌≡◌, ℕ, suc, ◌+◌, ◌-◌, ◌*◌, ◌/◌, ◌%◌, ◌<◌, ◌≤◌, Bool, true, false, cond, List, [], ◌∷◌, length, get_or, refl, sym, ap, subst, ◌∙◌, arith, inl, inr}
use Rattle.std.specs.Prelude.{◌⊎◌, Option, Some, None, All, slice_get}
use Rattle.std.specs.List.{list_any}
use Rattle.std.proofs.lemmas.List.{get_or_past}
use Rattle.std.proofs.lemmas.Bool.{or_cases}
use Rattle.aff_model.specs.declared.cell.Cell.{Cell}
use Rattle.aff_model.specs.declared.cell.Cell.TheVariants.{Byte, Unreadable, Unknown}
use Rattle.aff_model.specs.declared.extent.Extent.{Extent}
use Rattle.aff_model.specs.Cells.{content_of}
use Rattle.aff_model.specs.Content.{Content}
use Rattle.aff_model.specs.History.{last_ones}
use Rattle.aff_model.specs.Legal.{IsComplete}
use Rattle.aff_model.specs.Plan.{IsExtent, IsPlan, has_place}
use Rattle.aff_fields.specs.declared.entry.Entry.{Entry}
use Rattle.aff_spec.specs.Runs.{Spot, spot_in, AreGreatestRuns}
use Rattle.aff_spec.specs.Unreadable.{is_unreadable}
use Rattle.aff_spec.specs.Walks.{IsImageRun, AreImageRuns}
use Rattle.aff_spec.proofs.Lookups.{lookup_covering}
use Rattle.aff_spec.proofs.Streams.{ReadsAs}
use Rattle.aff_image.specs.Image.{Image, IsImageBy, acquired_content, image_spot}
use Rattle.aff_image.proofs.Cells.{CellReads, has_place_to}
use Rattle.aff_image.proofs.Images.{image_reads-acquired}

-- the chunks as a stream that ends with them
chunk_stream : List (List ℕ) → ℕ → Option ℕ
chunk_stream chunks place = slice_get (get_or chunks (place / 32768) []) (place % 32768)

chunk_stream-reads : (chunks : List (List ℕ)) → ReadsAs (chunk_stream chunks) chunks
unfolding chunk_stream ReadsAs
chunk_stream-reads chunks k r below low =
    let number : (32768 * k + r) / 32768 ≡ k = omega (arith, low) in
    let place : (32768 * k + r) % 32768 ≡ r = omega (arith, low) in
    ap (λ n. slice_get (get_or chunks n []) ((32768 * k + r) % 32768)) number ∙ ap (slice_get (get_or chunks k [])) place

within_or_past : (k n : ℕ) → (k < n) ⊎ (n ≤ k)
within_or_past k n = grind arith

chunk_stream-inside : (chunks : List (List ℕ)) (place b : ℕ) → chunk_stream chunks place ≡ Some b → place < 32768 * length chunks
unfolding chunk_stream
chunk_stream-inside chunks place b is =
    elim (within_or_past (place / 32768) (length chunks)) [
      | inl below ↦ omega (arith, below)
      | inr past ↦ (
          let none : chunk_stream chunks place ≡ None = ap (λ v. slice_get v (place % 32768)) (get_or_past chunks (place / 32768) [] past) in
          absurd (cc))
    ]

-- a place that some extent has lies on the device
on_device : (i size block : ℕ) (extents : List Extent) → All (IsExtent size block) extents → list_any (has_place i) extents ≡ true → i < size
on_device i size block [] each has = absurd (cc)
on_device i size block (x ∷ extents) each has =
    elim (or_cases (has_place i x) (list_any (has_place i) extents) has) [
      | inl here ↦ omega (arith, has_place_to i x here, (each 0 x (omega arith)).inside)
      | inr later ↦ on_device i size block extents (λ k d below. each (suc k) d (omega (arith, below))) later
    ]

-- a place with a spot lies in the image
spot_inside : (stream : ℕ → Option ℕ) (c : Content) (i size block : ℕ) (extents : List Extent) (unreadable : ℕ → Bool) (spot : Spot) → All (IsExtent size block) extents
    → CellReads stream i (Some spot) (content_of c extents unreadable i) → i < size
spot_inside stream c i size block extents unreadable spot each =
    elim (list_any (has_place i) extents) as (λ b. list_any (has_place i) extents ≡ b
    → CellReads stream i (Some spot) (cond b (cond (unreadable (i / 512)) Unreadable (Byte (c.byte i))) Unknown) → i < size) [
      | true ↦ λ has reads. on_device i size block extents each has
      | false ↦ λ lacks reads. absurd (cc)
    ] refl

-- one spot has one target and one place
same_spot : (s t : Spot) → Some s ≡ Some t → (s.0 ≡ t.0) × (s.1 ≡ t.1)
same_spot s t e = let same : s ≡ t = cc in (ap (λ (p : Spot). p.0) same, ap (λ (p : Spot). p.1) same)

-- the target of a spot, and the place where the stream has a byte
known_target : (stream : ℕ → Option ℕ) (i target place : ℕ) (cell : Cell) → CellReads stream i (Some (target, place)) cell → target ≤ 2
known_target stream i target place Unknown is = absurd (cc)
known_target stream i target place Unreadable is = omega (arith, (same_spot (target, place) (2, i) is).0)
known_target stream i target place (Byte b) (inl zero) = omega (arith, (same_spot (target, place) (1, i) zero.0).0)
known_target stream i target place (Byte b) (inr stored) = omega (arith, (same_spot (target, place) (0, stored.0) stored.1).0)

own_place : (stream : ℕ → Option ℕ) (i target place : ℕ) (cell : Cell) → 0 < target → CellReads stream i (Some (target, place)) cell → place ≡ i
own_place stream i target place Unknown some is = absurd (cc)
own_place stream i target place Unreadable some is = (same_spot (target, place) (2, i) is).1
own_place stream i target place (Byte b) some (inl zero) = (same_spot (target, place) (1, i) zero.0).1
own_place stream i target place (Byte b) some (inr stored) = absurd (omega (arith, (same_spot (target, place) (0, stored.0) stored.1).0, some))

stored_place : (stream : ℕ → Option ℕ) (i target place : ℕ) (cell : Cell) → target ≡ 0 → CellReads stream i (Some (target, place)) cell → (b : ℕ) × (stream place ≡ Some b)
stored_place stream i target place Unknown none is = absurd (cc)
stored_place stream i target place Unreadable none is = absurd (omega (arith, (same_spot (target, place) (2, i) is).0, none))
stored_place stream i target place (Byte b) none (inl zero) = absurd (omega (arith, (same_spot (target, place) (1, i) zero.0).0, none))
stored_place stream i target place (Byte b) none (inr stored) = (b, ap stream (same_spot (target, place) (0, stored.0) stored.1).1 ∙ stored.2)

-- the entries of the map of a complete image
module _ (case : Option Content) (workers : ℕ) (m : Image) (entries : List Entry) (is_plan : IsPlan m.plan.size m.plan.block m.plan.extents) (image : IsImageBy case workers m)
    (complete : IsComplete m.plan.extents m.history) (runs : AreGreatestRuns (image_spot m) entries) where
  abbrev stream : ℕ → Option ℕ
  stream = chunk_stream m.chunks

  -- where place i of an entry leads
  leads : (k : ℕ) (d : Entry) (i : ℕ) → k < length entries → (get_or entries k d).at ≤ i → i < (get_or entries k d).at + (get_or entries k d).len
      → CellReads stream i (Some (spot_in i (get_or entries k d))) (acquired_content m i)
  leads k d i below from to =
      subst (λ spot. CellReads stream i spot (acquired_content m i)) (sym (runs.spots i) ∙ lookup_covering entries runs.sorted d i k below from to)
      (image_reads-acquired case workers m is_plan image stream i complete (chunk_stream-reads m.chunks))

  image_run : (k : ℕ) (d : Entry) → k < length entries → IsImageRun m.plan.size (length m.chunks) (get_or entries k d)
  image_run k d below =
      let e = get_or entries k d in
      let some : 0 < (get_or entries k d).len = runs.some k d below in
      let first_leads = leads k d e.at below (omega arith) (omega (arith, some)) in
      let last_leads = leads k d (e.at + e.len - 1) below (omega (arith, some)) (omega (arith, some)) in
      let none : e.target_at + (e.at - e.at) ≡ e.target_at = omega arith in
      let rest : e.target_at + (e.at + e.len - 1 - e.at) ≡ e.target_at + e.len - 1 = omega (arith, some) in
      record {
        some = some;
        inside = omega (
          arith,
          some,
          spot_inside stream m.content (e.at + e.len - 1) m.plan.size m.plan.block m.plan.extents (is_unreadable m.plan.extents (last_ones m.history)) (spot_in (e.at + e.len - 1) e) is_plan.each last_leads,
        );
        known = known_target stream e.at e.target (e.target_at + (e.at - e.at)) (acquired_content m e.at) first_leads;
        stored = λ zero.
            let at = stored_place stream (e.at + e.len - 1) e.target (e.target_at + (e.at + e.len - 1 - e.at)) (acquired_content m (e.at + e.len - 1)) zero last_leads in
            let inside = chunk_stream-inside m.chunks (e.target_at + (e.at + e.len - 1 - e.at)) at.0 at.1 in
            omega (arith, inside, rest, some);
        symbolic = λ more. sym none ∙ own_place stream e.at e.target (e.target_at + (e.at - e.at)) (acquired_content m e.at) more first_leads;
      }

  pub image_runs : AreImageRuns m.plan.size (length m.chunks) entries
  image_runs = record { each = image_run; sorted = runs.sorted }
