-- The bytes of an image as its pieces keep them, and as they are shown.
use Rattle.std.specs.Prelude.{◌≡◌, ℕ, ◌+◌, ◌-◌, ◌/◌, ◌%◌, Bool, List, [], ◌∷◌, length, take, Option, None, Some, IfSome, IsTrue, MatchBool, slice_get, slice_index, slice_index_or}
use Rattle.sha2.specs.Sha256.{sha256}
use Rattle.aff_model.specs.declared.limits.TheConstants.{CHUNK}
use Rattle.aff_model.specs.declared.extent.Extent.{Extent}
use Rattle.aff_model.specs.declared.publication.Place.{Place}
use Rattle.aff_model.specs.declared.publication.Place.TheVariants.{Zero, Chunk, Nothing}
use Rattle.aff_model.specs.Cells.{is_bad_at}
use Rattle.aff_model.specs.History.{Part, publication_of}
use Rattle.aff_model.specs.Legal.{numbers_of}
use Rattle.aff_model.specs.Plan.{has_place}
use Rattle.aff_spec.specs.Symbols.{unknown_byte, unreadable_byte}

-- how many of an extent's chunks before chunk j are stored
abbrev pub stored_before : List Place → ℕ → ℕ
stored_before places j = length (numbers_of (take j places))

-- the chunk of an image place, counted from its extent's first, and the place inside it
abbrev pub chunk_of : Extent → ℕ → ℕ
chunk_of e i = (i - e.at) / CHUNK

abbrev pub within_chunk : Extent → ℕ → ℕ
within_chunk e i = (i - e.at) % CHUNK

-- these bytes pass as a piece's stored chunk of a number: they have a chunk's length and the digest of that number, and
-- are what the receipt of that number tells, where receipts tell
pub record IsFetched (tells : Bool) {R : Type 0} (told : R → List ℕ) (p : Part R) (n : ℕ) (chunk : List ℕ) : Type 0 where
  pub len : length chunk ≡ CHUNK
  pub digest : slice_get p.digests n ≡ Some (sha256 chunk)
  pub told_bytes : IsTrue tells → IfSome (slice_get p.receipts n) (λ r. told r ≡ chunk)

-- the receipt of a number tells a piece's stored chunk of that number
abbrev pub IsToldAs : {R : Type 0} → (R → List ℕ) → Part R → ℕ → Type 0
IsToldAs told p n = IfSome (slice_get p.receipts n) (λ r. (length (told r) ≡ CHUNK) × (slice_get p.digests n ≡ Some (sha256 (told r))))

-- byte b of chunk j by the chunk's place: it is 0, or it is that of such a stored chunk; where no sector was read, there
-- is no such byte
abbrev pub KeepsAt : Bool → {R : Type 0} → (R → List ℕ) → Part R → ℕ → ℕ → ℕ → Place → Type 0
KeepsAt tells told p j b byte Nothing = ⊥
KeepsAt tells told p j b byte Zero = byte ≡ 0
KeepsAt tells told p j b byte (Chunk c) = (chunk : List ℕ) × IsFetched tells told p (stored_before p.places j) chunk × (byte ≡ slice_index chunk b)

-- the piece of an extent keeps this byte of an image place
abbrev pub Keeps : Bool → {R : Type 0} → (R → List ℕ) → Extent → Part R → ℕ → ℕ → Type 0
Keeps tells told e p i byte = KeepsAt tells told p (chunk_of e i) (within_chunk e i) byte (slice_index_or p.places (chunk_of e i) Nothing)

-- a place of a piece's extent is shown: by a letter where its sector could not be read, else by the byte that the piece
-- keeps
abbrev pub Shows : Bool → {R : Type 0} → (R → List ℕ) → Extent → Part R → ℕ → ℕ → Type 0
Shows tells told e p i byte = MatchBool (is_bad_at e (publication_of p) i) (byte ≡ unreadable_byte i) (Keeps tells told e p i byte)

-- a place is shown by a piece whose extent holds it, else by the others
abbrev pub IsShownBy : Bool → {R : Type 0} → (R → List ℕ) → Option Extent → Part R → ℕ → ℕ → Type 0 → Type 0
IsShownBy tells told None p i byte others = others
IsShownBy tells told (Some e) p i byte others = MatchBool (has_place i e) (Shows tells told e p i byte) others

-- a place is shown by pieces: by a letter where none of their extents holds it
abbrev pub IsShown : Bool → {R : Type 0} → (R → List ℕ) → List Extent → List (Part R) → ℕ → ℕ → Type 0
IsShown tells told extents [] i byte = byte ≡ unknown_byte i
IsShown tells told extents (p ∷ pieces) i byte = IsShownBy tells told (slice_get extents p.extent) p i byte (IsShown tells told extents pieces i byte)
