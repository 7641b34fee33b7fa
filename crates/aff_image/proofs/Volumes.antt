-- The volume of a complete image: what the appends of its chunks and entries make, and what its places read as.
use Rattle.std.proofs.Common.{◌≡◌, ℕ, ◌≤◌, true, List, length, map, refl, sym, ap, subst, ◌∙◌, arith, inl, inr}
use Rattle.std.specs.Prelude.{Bool, Option, Some, All, IsTrue, slice_get, unwrap_or}
use Rattle.std.specs.Option.{option_map, option_and_then}
use Rattle.std.specs.List.{range_with_len}
use Rattle.std.specs.FinMap.{empty}
use Rattle.std.proofs.lemmas.List.Elements.{recursion_from_All}
use Rattle.aff_model.specs.declared.cell.Cell.{Cell}
use Rattle.aff_model.specs.declared.cell.Cell.TheVariants.{Byte, Unreadable, Unknown}
use Rattle.aff_model.specs.declared.limits.TheConstants.{MAX_CHUNKS}
use Rattle.aff_model.specs.Content.{Content}
use Rattle.aff_model.specs.Held.{Held, bytes_of}
use Rattle.aff_model.specs.Legal.{IsComplete}
use Rattle.aff_model.specs.Plan.{IsPlan}
use Rattle.aff_fields.specs.declared.entry.Entry.{Entry}
use Rattle.aff_fields.specs.Entry.{entries_of, FitsEntry}
use Rattle.aff_spec.specs.Appends.{applied}
use Rattle.aff_spec.specs.Bevvies.{bevvy_count}
use Rattle.aff_spec.specs.Names.{map_name, idx_name, stream_urn, image_urn, zero_iri, unreadable_iri}
use Rattle.aff_spec.specs.Runs.{Spot, lookup, AreGreatestRuns}
use Rattle.aff_spec.specs.Streams.{stream_byte}
use Rattle.aff_spec.specs.Symbols.{fill_of}
use Rattle.aff_spec.specs.Lines.{lines_of}
use Rattle.aff_spec.specs.Volumes.{volume_of, targets_text, target_cell, target_byte, spot_cell, spot_byte, volume_bytes}
use Rattle.aff_spec.specs.Walks.{IsStored, IsWalkable}
use Rattle.aff_spec.specs.Words.{is_uuid}
use Rattle.aff_spec.proofs.Chunks.{AreChunks}
use Rattle.aff_spec.proofs.Targets.{first_target, second_target, third_target, stream_cell, stream_byte_of}
use Rattle.aff_image.specs.Image.{Image, IsImageBy, acquired_content, image_bytes, image_spot}
use Rattle.aff_image.specs.Volume.{IsVolume, image_appends}
use Rattle.aff_image.proofs.Cells.{CellReads}
use Rattle.aff_image.proofs.Counts.{few_kept}
use Rattle.aff_image.proofs.Images.{image_reads-acquired, has_readings}
use Rattle.aff_image.proofs.Made.{HasImage, volume_segments, volume_hashes, volume_image, volume_stored}
use Rattle.aff_image.proofs.Runs.{image_runs}

-- the spot of a cell reads as that cell
module _ (held : Held) (uuid : List ℕ) (ok : is_uuid uuid ≡ true) (targets : bytes_of held (idx_name (image_urn uuid)) ≡ targets_text (stream_urn uuid)) where
  -- where a spot leads whose target is number k of the list
  cell_through : (i k place : ℕ) (target : List ℕ) → slice_get (lines_of (targets_text (stream_urn uuid))) k ≡ Some target
      → spot_cell held (volume_of uuid) i (Some (k, place)) ≡ target_cell held (volume_of uuid) target place
  cell_through i k place target is =
      ap (option_and_then (λ t. target_cell held (volume_of uuid) t place)) (ap (λ v. slice_get (lines_of v) k) targets ∙ is)

  byte_through : (i k place : ℕ) (target : List ℕ) → slice_get (lines_of (targets_text (stream_urn uuid))) k ≡ Some target
      → spot_byte held (volume_of uuid) i (Some (k, place)) ≡ target_byte held (volume_of uuid) target place
  byte_through i k place target is =
      ap (option_and_then (λ t. target_byte held (volume_of uuid) t place)) (ap (λ v. slice_get (lines_of v) k) targets ∙ is)

  spot_of_cell : (i : ℕ) (spot : Option Spot) (cell : Cell) → CellReads (stream_byte held (stream_urn uuid)) i spot cell → spot_cell held (volume_of uuid) i spot ≡ Some cell
  spot_of_cell i spot Unknown is = ap (spot_cell held (volume_of uuid) i) is
  spot_of_cell i spot Unreadable is = ap (spot_cell held (volume_of uuid) i) is ∙ cell_through i 2 i unreadable_iri (third_target uuid ok)
  spot_of_cell i spot (Byte b) (inl zero) =
      ap (spot_cell held (volume_of uuid) i) zero.0 ∙ cell_through i 1 i zero_iri (second_target uuid ok) ∙ ap (λ n. Some (Byte n)) (sym zero.1)
  spot_of_cell i spot (Byte b) (inr stored) =
      ap (spot_cell held (volume_of uuid) i) stored.1
      ∙ cell_through i 0 stored.0 (stream_urn uuid) (first_target uuid ok)
      ∙ stream_cell held uuid stored.0
      ∙ ap (option_map Byte) stored.2

  spot_of_byte : (i : ℕ) (spot : Option Spot) (cell : Cell) → CellReads (stream_byte held (stream_urn uuid)) i spot cell → spot_byte held (volume_of uuid) i spot ≡ Some (fill_of i cell)
  spot_of_byte i spot Unknown is = ap (spot_byte held (volume_of uuid) i) is
  spot_of_byte i spot Unreadable is = ap (spot_byte held (volume_of uuid) i) is ∙ byte_through i 2 i unreadable_iri (third_target uuid ok)
  spot_of_byte i spot (Byte b) (inl zero) =
      ap (spot_byte held (volume_of uuid) i) zero.0 ∙ byte_through i 1 i zero_iri (second_target uuid ok) ∙ ap Some (sym zero.1)
  spot_of_byte i spot (Byte b) (inr stored) =
      ap (spot_byte held (volume_of uuid) i) stored.1
      ∙ byte_through i 0 stored.0 (stream_urn uuid) (first_target uuid ok)
      ∙ stream_byte_of held uuid stored.0
      ∙ stored.2

-- an image has no more chunks than a plan can have
pub image-few : (case : Option Content) (workers : ℕ) (m : Image) → IsPlan m.plan.size m.plan.block m.plan.extents → IsImageBy case workers m → length m.chunks ≤ MAX_CHUNKS
image-few case workers m is_plan image =
    let has = has_readings case workers m is_plan image in
    subst (λ v. length v ≤ MAX_CHUNKS) has.chunks (few_kept (Some m.content) m.plan workers has.readings is_plan has.are)

-- a complete image, and entries for its map
module _ (case : Option Content) (workers : ℕ) (uuid : List ℕ) (m : Image) (entries : List Entry) (is_plan : IsPlan m.plan.size m.plan.block m.plan.extents) (image : IsImageBy case workers m)
    (complete : IsComplete m.plan.extents m.history) (runs : AreGreatestRuns (image_spot m) entries) (fit : All FitsEntry entries) where
  few_bevvies : bevvy_count (length m.chunks) ≤ 100000000
  few_bevvies = omega (arith, image-few case workers m is_plan image)

  whole_chunks : AreChunks m.chunks
  unfolding AreChunks
  whole_chunks = recursion_from_All (λ chunk. length chunk ≡ 32768) m.chunks image.whole

  abbrev whole : Held
  whole = applied empty (image_appends uuid m entries)

  -- what its appends make is its volume, with these entries
  whole_volume : is_uuid uuid ≡ true → (v : IsVolume uuid m whole) × (v.entries ≡ entries)
  whole_volume ok = (
    record {
      entries = entries;
      runs = runs;
      made = refl;
      segments = volume_segments uuid m.chunks entries;
      readable = record {
        cells = λ i.
            ap (spot_cell whole (volume_of uuid) i) (spot_at i)
            ∙ spot_of_cell whole uuid ok has.targets i (image_spot m i) (acquired_content m i) (reads_at i);
        bytes = λ i.
            ap (spot_byte whole (volume_of uuid) i) (spot_at i)
            ∙ spot_of_byte whole uuid ok has.targets i (image_spot m i) (acquired_content m i) (reads_at i);
        blocks = volume_hashes uuid m.chunks entries few_bevvies whole_chunks;
      };
    },
    refl,
  )
    where
      has : HasImage whole uuid m.chunks entries
      has = volume_image uuid m.chunks entries few_bevvies whole_chunks fit

      spot_at : (i : ℕ) → lookup (entries_of (bytes_of whole (map_name (image_urn uuid)))) i ≡ image_spot m i
      spot_at i = ap (λ es. lookup es i) has.map ∙ runs.spots i

      reads_at : (i : ℕ) → CellReads (stream_byte whole (stream_urn uuid)) i (image_spot m i) (acquired_content m i)
      reads_at i = image_reads-acquired case workers m is_plan image (stream_byte whole (stream_urn uuid)) i complete has.stream

  pub is_volume : is_uuid uuid ≡ true → (held : Held) → held ≡ applied empty (image_appends uuid m entries) → IsVolume uuid m held
  is_volume ok held made = subst (IsVolume uuid m) (sym made) (whole_volume ok).0

  -- and all bytes of its image can be read there in their order
  pub is_walkable : (tells : Bool) (held : Held) → (IsTrue tells → held ≡ applied empty (image_appends uuid m entries)) → IsWalkable tells held uuid m.plan.size entries
  is_walkable tells held made = record {
    chunks = length m.chunks;
    few = few_bevvies;
    runs = image_runs case workers m entries is_plan image complete runs;
    stored = λ told. subst (λ h. IsStored h uuid (length m.chunks) entries) (sym (made told)) (volume_stored uuid m.chunks entries few_bevvies whole_chunks fit);
  }

-- the bytes of a volume are those of its image
pub volume_bytes_are : (uuid : List ℕ) (m : Image) (held : Held) → IsVolume uuid m held → volume_bytes held (volume_of uuid) m.plan.size ≡ image_bytes m
volume_bytes_are uuid m held is = λ j. map (λ i. unwrap_or (is.readable.bytes i j) 0) (range_with_len 0 m.plan.size)
