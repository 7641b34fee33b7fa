-- What the spot of a byte of an extent that was read reads as.
use Rattle.std.proofs.Common.{◌≡◌, ℕ, ◌+◌, ◌-◌, ◌*◌, ◌/◌, ◌%◌, ◌<◌, ◌≤◌, true, false, nat_le, nat_lt, cond, List, ◌++◌, length, get_or, refl, sym, ap, subst, ◌∙◌, arith, inl, inr}
use Rattle.std.specs.Prelude.{◌⊎◌, Option, Some, None, Contains, slice_get, if◌then◌else◌}
use Rattle.std.proofs.lemmas.Bool.{and_parts}
use Rattle.std.proofs.lemmas.Option.{slice_get-get_or}
use Rattle.aff_model.specs.declared.cell.Cell.{Cell}
use Rattle.aff_model.specs.declared.cell.Cell.TheVariants.{Byte, Unreadable, Unknown}
use Rattle.aff_model.specs.declared.extent.Extent.{Extent}
use Rattle.aff_model.specs.declared.publication.Place.{Place}
use Rattle.aff_model.specs.declared.publication.Place.TheVariants.{Zero, Chunk, Nothing}
use Rattle.aff_model.specs.Cells.{is_bad_at}
use Rattle.aff_model.specs.Content.{Content}
use Rattle.aff_model.specs.Plan.{Planned, has_place}
use Rattle.aff_spec.specs.Runs.{Spot, published_spot, place_spot}
use Rattle.aff_spec.proofs.Streams.{ReadsAs}
use Rattle.aff_image.specs.Sound.{IsPlaceIn}
use Rattle.aff_image.specs.Witnesses.{Witnessed, kept_of}
use Rattle.aff_image.proofs.Kept.{stored_byte}
use Rattle.aff_image.proofs.Rows.{IsRow}
use Rattle.aff_image.proofs.Sectors.{not_in}

-- the spot of place i is that of a cell: none where it is unknown; the place of target 2 where it is unreadable; of a byte
-- the place of target 1 where the byte is 0, or a place of target 0 at which the stream has the byte
abbrev pub CellReads : (ℕ → Option ℕ) → ℕ → Option Spot → Cell → Type 0
CellReads stream i spot Unknown = spot ≡ None
CellReads stream i spot Unreadable = spot ≡ Some (2, i)
CellReads stream i spot (Byte b) = ((spot ≡ Some (1, i)) × (b ≡ 0)) ⊎ ((place : ℕ) × (spot ≡ Some (0, place)) × (stream place ≡ Some b))

-- an extent that has a place
pub has_place_from : (i : ℕ) (x : Extent) → has_place i x ≡ true → x.at ≤ i
has_place_from i x h = let parts = and_parts (nat_le x.at i) (nat_lt i (x.at + x.len)) h in grind (arith, parts.0)

pub has_place_to : (i : ℕ) (x : Extent) → has_place i x ≡ true → i < x.at + x.len
has_place_to i x h = let parts = and_parts (nat_le x.at i) (nat_lt i (x.at + x.len)) h in grind (arith, parts.1)

-- place i is in an extent that was read, and its kept chunks stand in the stream behind as many others as its first number
-- says
module _ (stream : ℕ → Option ℕ) (c : Content) (plan : Planned) (i : ℕ) (r : Witnessed) (before after : List (List ℕ)) (row : IsRow (Some c) plan (length before) r)
    (has : has_place i row.extent ≡ true) (reads : ReadsAs stream (before ++ (kept_of r ++ after))) where
  abbrev x : Extent
  x = row.extent

  abbrev bytes : List ℕ
  bytes = r.bytes

  abbrev bad : List ℕ
  bad = r.published.bad

  abbrev places : List Place
  places = r.published.places

  low : x.at ≤ i
  low = has_place_from i x has

  inside : i - x.at < length bytes
  inside = omega (arith, has_place_from i x has, has_place_to i x has, row.reading.len)

  same_sector : (i - x.at) / 512 ≡ i / 512 - x.at / 512
  same_sector = omega (arith, has_place_from i x has, row.sectors.at_whole)

  -- a byte that was read is the content's
  byte_is : ¬ (Contains bad (i / 512 - x.at / 512)) → (k : ℕ) → k ≡ i - x.at → get_or bytes k 0 ≡ c.byte i
  byte_is good k e =
      let below : k < length bytes = omega (arith, e, inside) in
      let sector : k / 512 ≡ i / 512 - x.at / 512 = ap (λ n. n / 512) e ∙ same_sector in
      row.reading.known k below (subst (λ s. ¬ (Contains bad s)) (sym sector) good) ∙ ap c.byte (omega (arith, e, low))

  -- its chunk by the place of it
  kept : (place : Place) → slice_get places ((i - x.at) / 32768) ≡ Some place → IsPlaceIn x bytes bad ((i - x.at) / 32768) place
      → ¬ (Contains bad (i / 512 - x.at / 512)) → CellReads stream i (place_spot (Some place) x i) (Byte (c.byte i))
  kept Zero at why good =
      inl (refl, sym (byte_is good (i - x.at) refl) ∙ why.1 (i - x.at) (omega arith) (omega arith) inside)
  kept Nothing at why good =
      absurd (good (why (i / 512 - x.at / 512) record {
        from = omega (arith, same_sector);
        to = omega (arith, same_sector);
        inside = omega (arith, same_sector, low, has_place_to i x has, row.sectors.at_whole, row.sectors.len_whole);
      }))
  kept (Chunk number) at why good =
      let whole : 32768 * ((i - x.at) / 32768) + (i - x.at) % 32768 ≡ i - x.at = omega arith in
      inr (
        32768 * number + (i - x.at) % 32768,
        refl,
        stored_byte stream before after bytes places ((i - x.at) / 32768) ((i - x.at) % 32768) number row.numbered reads at (omega arith) (omega (arith, whole, inside))
            ∙ ap Some (byte_is good (32768 * ((i - x.at) / 32768) + (i - x.at) % 32768) whole),
      )

  -- the spot by its publication
  pub published_reads : CellReads stream i (published_spot row.extent r.published i) (if is_bad_at row.extent r.published i then Unreadable else Byte (c.byte i))
  published_reads =
      let below : (i - x.at) / 32768 < length places = omega (arith, row.reading.count, row.reading.len, inside) in
      let at : slice_get places ((i - x.at) / 32768) ≡ Some (get_or places ((i - x.at) / 32768) Nothing) = slice_get-get_or places ((i - x.at) / 32768) Nothing below in
      elim (is_bad_at x r.published i) as (λ b. is_bad_at x r.published i ≡ b
      → CellReads stream i (cond b (Some (2, i)) (place_spot (slice_get places ((i - x.at) / 32768)) x i)) (cond b Unreadable (Byte (c.byte i)))) [
        | true ↦ λ h. refl
        | false ↦ λ h. subst (λ o. CellReads stream i (place_spot o x i) (Byte (c.byte i))) (sym at)
            (kept (get_or places ((i - x.at) / 32768) Nothing) at (row.reading.placed ((i - x.at) / 32768) Nothing below) (not_in bad (i / 512 - x.at / 512) h))
      ] refl
