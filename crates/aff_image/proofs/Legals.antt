-- The history of readings is legal over the content that they witness, and stores what they keep.
use Rattle.std.proofs.Common.{◌≡◌, ℕ, ◌+◌, ◌*◌, ◌/◌, ◌%◌, ◌<◌, ◌≤◌, true, false, ◌==◌, List, [], ◌∷◌, ◌++◌, length, get_or, refl, sym, ap, subst, ◌∙◌, arith}
use Rattle.std.specs.Prelude.{Bool, Some, All, Contains, MatchOption, slice_get, if◌then◌else◌}
use Rattle.std.specs.List.{list_any}
use Rattle.std.specs.Bool.{Decides}
use Rattle.std.proofs.lemmas.Bool.{true≢false}
use Rattle.std.proofs.lemmas.Bool.Decides.{Decides-eqb}
use Rattle.std.proofs.lemmas.Grind.{same_number_lists}
use Rattle.std.proofs.lemmas.List.Elements.{All-cons, All-map, All-nil}
use Rattle.std.proofs.lemmas.List.Folds.{Any-from_list_any, list_any_at}
use Rattle.std.proofs.lemmas.List.FromFn.{length-map-range_with_len, get_or-map-range_with_len}
use Rattle.aff_model.specs.declared.extent.Extent.{Extent}
use Rattle.aff_model.specs.declared.publication.Place.{Place}
use Rattle.aff_model.specs.declared.publication.Place.TheVariants.{Zero, Chunk, Nothing}
use Rattle.aff_model.specs.Cells.{sector_in, is_bad_at}
use Rattle.aff_model.specs.Content.{Content}
use Rattle.aff_model.specs.History.{Published, fresh_ones}
use Rattle.aff_model.specs.Legal.{IsSectorOf, AllRead, IsZeroChunk, IsPlaceOf, IsPublished, IsClaimant, IsLegal, AreCounted, numbers_of, chunk_numbers}
use Rattle.aff_model.specs.Plan.{Planned, IsPlan}
use Rattle.aff_model.proofs.Once.{AreReadings-once, fresh_ones-once}
use Rattle.aff_model.proofs.Sectors.{IsSectored}
use Rattle.aff_spec.specs.Chunks.{IsZeroPart, published_bytes, stored_chunks, chunks_by, stream_chunks}
use Rattle.aff_spec.proofs.Plans.{sector_of_byte}
use Rattle.aff_image.specs.Sound.{IsPlaceIn, IsReading}
use Rattle.aff_image.specs.Witnesses.{Witnessed, AreWitnessed, history_of, kept_of, kept_chunks}
use Rattle.aff_image.proofs.Rows.{AreInRow, IsRow, in_row}

-- a search for a number tells whether a list has it
pub Decides-has : (s : ℕ) (xs : List ℕ) → Decides (list_any (λ x. x == s) xs) (Contains xs s)
Decides-has s xs = (found, λ has. list_any_at (λ x. x == s) xs has.0 s has.1 ((Decides-eqb (get_or xs has.0 s) s).1 has.2))
  where
    found : list_any (λ x. x == s) xs ≡ true → Contains xs s
    found h =
        let any = Any-from_list_any (λ x. x == s) xs h in
        (any.0, any.2, subst (λ v. get_or xs any.0 v ≡ v) ((Decides-eqb any.1 s).0 any.4) any.3)

-- a byte of an extent is bad where its sector is in the list
pub Decides-bad : (e : Extent) (p : Published) (k : ℕ) → e.at % 512 ≡ 0 → Decides (is_bad_at e p (e.at + k)) (Contains p.bad (k / 512))
Decides-bad e p k whole = subst (λ s. Decides (is_bad_at e p (e.at + k)) (Contains p.bad s)) (sector_of_byte e k whole) (Decides-has (sector_in e (e.at + k)) p.bad)

-- bytes of an extent that were read are the content's
module _ (c : Content) (size : ℕ) (e : Extent) (bytes bad : List ℕ) (is : IsSectored size e) (len : length bytes ≡ e.len)
    (known : (k : ℕ) → k < length bytes → ¬ (Contains bad (k / 512)) → get_or bytes k 0 ≡ c.byte (e.at + k)) where
  -- the sector of a byte of a chunk
  own_sector : (j k : ℕ) → 32768 * j ≤ k → k < 32768 * j + 32768 → k < e.len → IsSectorOf e j (k / 512)
  own_sector j k from to below = record { from = omega (arith, from); to = omega (arith, to); inside = omega (arith, below, is.len_whole) }

  -- a byte of a chunk that is all read is the content's
  byte_read : (j k : ℕ) → AllRead e bad j → 32768 * j ≤ k → k < 32768 * j + 32768 → k < e.len → get_or bytes k 0 ≡ c.byte (e.at + k)
  byte_read j k read from to below = known k (omega (arith, below, len)) (read (k / 512) (own_sector j k from to below))

  zero_chunk : (j : ℕ) → AllRead e bad j → IsZeroPart bytes j → IsZeroChunk e j c
  zero_chunk j read zeros k from to below = sym (byte_read j k read from to below) ∙ zeros k from to (omega (arith, below, len))

  zero_part : (j : ℕ) → AllRead e bad j → IsZeroChunk e j c → IsZeroPart bytes j
  zero_part j read zeros k from to below = let low : k < e.len = omega (arith, below, len) in byte_read j k read from to low ∙ zeros k from to low

  -- the place by the bytes that were read is that by the content, and the other way round
  pub place_read : (j : ℕ) (place : Place) → IsPlaceIn e bytes bad j place → IsPlaceOf (Some c) e bad j place
  place_read j Nothing h = h
  place_read j Zero h = (h.0, zero_chunk j h.0 h.1)
  place_read j (Chunk n) h = (h.0, λ both. h.1 (both.0, zero_part j both.0 both.1))

  pub place_witnessed : (j : ℕ) (place : Place) → IsPlaceOf (Some c) e bad j place → IsPlaceIn e bytes bad j place
  place_witnessed j Nothing h = h
  place_witnessed j Zero h = (h.0, zero_part j h.0 h.1)
  place_witnessed j (Chunk n) h = (h.0, λ both. h.1 (both.0, zero_chunk j both.0 both.1))

-- an extent was read of a content
module _ (c : Content) (size block : ℕ) (e : Extent) (bytes bad : List ℕ) (places : List Place) (is : IsSectored size e) (one : IsReading (Some c) block e bytes bad places) where
  -- its publication is one of the content
  pub published_read : (p : Published) → p.bad ≡ bad → p.places ≡ places → IsPublished (Some c) block e p
  published_read p same_bad same_places =
      subst (λ b. IsPublished (Some c) block e (record p { bad = b })) (sym same_bad)
      (subst (λ v. IsPublished (Some c) block e (record p { bad = bad; places = v })) (sym same_places) is_published)
    where
      is_published : IsPublished (Some c) block e (record p { bad = bad; places = places })
      is_published = record { fits = one.fits; count = one.count; places = λ j d below. place_read c size e bytes bad is one.len one.known j (get_or places j d) (one.placed j d below) }

  -- and its bytes are those that the publication has of the content
  pub bytes_read : (p : Published) → p.bad ≡ bad → bytes ≡ published_bytes c e p
  bytes_read p same =
      same_number_lists bytes (published_bytes c e p) (one.len ∙ sym (length-map-range_with_len byte e.at e.len)) (λ k below.
      let low : k < e.len = omega (arith, below, one.len) in
      at k below (is_bad_at e p (e.at + k)) refl ∙ sym (get_or-map-range_with_len byte e.at e.len k (e.at + k) 0 low refl))
    where
      byte : ℕ → ℕ
      byte i = if is_bad_at e p i then 0 else c.byte i

      decides : (k : ℕ) → Decides (is_bad_at e p (e.at + k)) (Contains bad (k / 512))
      decides k = subst (λ b. Decides (is_bad_at e p (e.at + k)) (Contains b (k / 512))) same (Decides-bad e p k is.at_whole)

      at : (k : ℕ) → k < length bytes → (b : Bool) → is_bad_at e p (e.at + k) ≡ b → get_or bytes k 0 ≡ (if is_bad_at e p (e.at + k) then 0 else c.byte (e.at + k))
      at k below true bad_here = one.zero k below ((decides k).0 bad_here) ∙ ap (λ b. if b then 0 else c.byte (e.at + k)) (sym bad_here)
      at k below false good =
          let read : ¬ (Contains bad (k / 512)) = λ has. true≢false (sym ((decides k).1 has) ∙ good) in
          one.known k below read ∙ ap (λ b. if b then 0 else c.byte (e.at + k)) (sym good)

-- each publication is one of its extent
abbrev IsItsExtent : Content → Planned → Published → Type 0
IsItsExtent c plan p = MatchOption (slice_get plan.extents p.extent) ⊥ (λ e. IsPublished (Some c) plan.block e p)

module _ (c : Content) (plan : Planned) where
  published_at : (first : ℕ) (r : Witnessed) → IsRow (Some c) plan first r → IsItsExtent c plan r.published
  published_at first r row =
      subst (λ o. MatchOption o ⊥ (λ e. IsPublished (Some c) plan.block e r.published)) (sym row.planned)
      (published_read c plan.size plan.block row.extent r.bytes r.published.bad r.published.places row.sectors row.reading r.published refl refl)

  kept_at : (first : ℕ) (r : Witnessed) → IsRow (Some c) plan first r → chunks_by c (slice_get plan.extents r.published.extent) r.published ≡ kept_of r
  kept_at first r row =
      ap (λ o. chunks_by c o r.published) row.planned
      ∙ ap (λ v. stored_chunks v r.published.places)
      (sym (bytes_read c plan.size plan.block row.extent r.bytes r.published.bad r.published.places row.sectors row.reading r.published refl))

  -- the chunks that the history stores of the content are those that the readings keep
  kept_along : (first : ℕ) (readings : List Witnessed) → AreInRow (Some c) plan first readings → stream_chunks c plan.extents (history_of readings) ≡ kept_chunks readings
  kept_along first [] rows = refl
  kept_along first (r ∷ readings) rows = λ i. kept_at first r rows.0 i ++ kept_along (first + length (numbers_of r.published.places)) readings rows.1 i

  published_along : (first : ℕ) (readings : List Witnessed) → AreInRow (Some c) plan first readings → All (IsItsExtent c plan) (history_of readings)
  published_along first [] rows = All-nil (IsItsExtent c plan)
  published_along first (r ∷ readings) rows =
      All-cons (IsItsExtent c plan) r.published (history_of readings) (published_at first r rows.0) (published_along (first + length (numbers_of r.published.places)) readings rows.1)

-- readings of a content
module _ (c : Content) (plan : Planned) (workers : ℕ) (readings : List Witnessed) (is_plan : IsPlan plan.size plan.block plan.extents) (are : AreWitnessed (Some c) plan workers readings) where
  pub rows_of : AreInRow (Some c) plan 0 readings
  rows_of = in_row (Some c) plan is_plan 0 readings are.each are.numbered

  pub legal_history : IsLegal (Some c) plan workers (history_of readings)
  legal_history = record {
    readings = AreReadings-once (history_of readings) are.once;
    claimants = All-map (IsClaimant workers) (λ r. r.published) readings are.claimants;
    published = published_along c plan 0 readings rows_of;
    numbered = subst (λ h. AreCounted (chunk_numbers h)) (sym (fresh_ones-once (history_of readings) are.once)) are.numbered;
  }

  -- what is new in each publication is stored, and nothing else
  pub kept_is : stream_chunks c plan.extents (fresh_ones (history_of readings)) ≡ kept_chunks readings
  kept_is = ap (stream_chunks c plan.extents) (fresh_ones-once (history_of readings) are.once) ∙ kept_along c plan 0 readings rows_of
