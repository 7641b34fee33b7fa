-- Readings of extents, and sound pieces: what the published list, the book and the viewers keep of each.
use Rattle.std.specs.Prelude.{◌≡◌, ℕ, ◌+◌, ◌/◌, ◌<◌, Bool, List, length, map, slice_index, slice_index_or, Option, All, IfSome, IsTrue, Contains, MatchOption, slice_get}
use Rattle.sha2.specs.Sha256.{sha256}
use Rattle.aff_model.specs.declared.limits.TheConstants.{SECTOR}
use Rattle.aff_model.specs.declared.extent.Extent.{Extent}
use Rattle.aff_model.specs.declared.publication.Place.{Place}
use Rattle.aff_model.specs.declared.publication.Place.TheVariants.{Zero, Chunk, Nothing}
use Rattle.aff_model.specs.Content.{Content}
use Rattle.aff_model.specs.History.{Part}
use Rattle.aff_model.specs.Legal.{Fits, NoneRead, AllRead}
use Rattle.aff_model.specs.Plan.{Planned, chunk_count}
use Rattle.aff_spec.specs.Chunks.{IsZeroPart, stored_chunks}

-- the place of chunk j by the bytes that were read: Nothing exactly where no sector was read, Zero exactly where each was
-- and all bytes are 0, else Chunk
abbrev pub IsPlaceIn : Extent → List ℕ → List ℕ → ℕ → Place → Type 0
IsPlaceIn e bytes bad j Nothing = NoneRead e bad j
IsPlaceIn e bytes bad j Zero = AllRead e bad j × IsZeroPart bytes j
IsPlaceIn e bytes bad j (Chunk c) = (¬ (NoneRead e bad j)) × (¬ (AllRead e bad j × IsZeroPart bytes j))

-- an extent was read: its list fits; the other bytes are the content's, where that is told, and those of the list are 0;
-- each chunk has its place, whatever its number
pub record IsReading (case : Option Content) (block : ℕ) (e : Extent) (bytes bad : List ℕ) (places : List Place) : Type 0 where
  pub len : length bytes ≡ e.len
  pub fits : Fits case block e bad
  pub known : IfSome case (λ c. (k : ℕ) → k < length bytes → ¬ (Contains bad (k / SECTOR)) → slice_index bytes k ≡ c.byte (e.at + k))
  pub zero : (k : ℕ) → k < length bytes → Contains bad (k / SECTOR) → slice_index bytes k ≡ 0
  pub count : length places ≡ chunk_count e.len
  pub placed : (j : ℕ) (d : Place) → j < length places → IsPlaceIn e bytes bad j (slice_index_or places j d)

-- a sound piece of an extent: some reading has its list and places; its digests are those of the stored chunks; and its
-- receipts, one a stored chunk, tell these chunks, where they tell. `told` is what a receipt tells
pub record IsSound (case : Option Content) (block : ℕ) (e : Extent) (tells : Bool) {R : Type 0} (told : R → List ℕ) (p : Part R) : Type 0 where
  pub bytes : List ℕ
  pub reading : IsReading case block e bytes p.bad p.places
  pub digests : p.digests ≡ map sha256 (stored_chunks bytes p.places)
  pub receipts : length p.receipts ≡ length p.digests
  pub told_chunks : IsTrue tells → map told p.receipts ≡ stored_chunks bytes p.places

-- pieces of extents of a plan, each sound
abbrev pub AreSound : Option Content → Planned → Bool → {R : Type 0} → (R → List ℕ) → List (Part R) → Type 0
AreSound case plan tells told pieces = All (λ p. MatchOption (slice_get plan.extents p.extent) ⊥ (λ e. IsSound case plan.block e tells told p)) pieces
