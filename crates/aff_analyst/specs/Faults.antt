-- Why a read gives nothing.
use Rattle.std.specs.Prelude.{◌≡◌, ◌≢◌, ℕ, ◌+◌, ◌<◌, ◌≤◌, Bool, false, List, length, Some, IsTrue, slice_get}
use Rattle.sha2.specs.Sha256.{sha256}
use Rattle.aff_model.specs.declared.limits.TheConstants.{CHUNK, MAX_READ}
use Rattle.aff_model.specs.declared.extent.Extent.{Extent}
use Rattle.aff_model.specs.declared.publication.Place.TheVariants.{Chunk}
use Rattle.aff_model.specs.Cells.{is_bad_at}
use Rattle.aff_model.specs.History.{Part, publication_of}
use Rattle.aff_model.specs.Plan.{Planned, has_place}
use Rattle.aff_analyst.specs.Bytes.{chunk_of, stored_before}
use Rattle.aff_analyst.specs.declared.error.ReadError.{ReadError}
use Rattle.aff_analyst.specs.declared.error.ReadError.TheVariants.{TooLong, PastEnd, Failed, Damaged}

-- some fetched bytes are not a piece's stored chunk of a number: they have another digest than it; over receipts that tell
-- there are none
pub record IsOtherChunk (tells : Bool) {R : Type 0} (p : Part R) (n : ℕ) (recorded found : List ℕ) : Type 0 where
  pub untold : ¬ (IsTrue tells)
  pub digest : slice_get p.digests n ≡ Some recorded
  pub bytes : List ℕ
  pub len : length bytes ≡ CHUNK
  pub sum : found ≡ sha256 bytes
  pub differs : found ≢ recorded

-- the cause of a fetch's error
abbrev pub IsFetchFault : Bool → {R : Type 0} → Part R → ℕ → ℕ → ReadError → Type 0
IsFetchFault tells p n chunk TooLong = ⊥
IsFetchFault tells p n chunk PastEnd = ⊥
IsFetchFault tells p n chunk Failed = Unit {0}
IsFetchFault tells p n chunk (Damaged c recorded found) = (c ≡ chunk) × IsOtherChunk tells p n recorded found

-- a place of a piece's extent whose byte was read lies in the chunk that is stored under a number
pub record IsNeeded {R : Type 0} (e : Extent) (p : Part R) (i chunk : ℕ) : Type 0 where
  pub holds : IsTrue (has_place i e)
  pub readable : is_bad_at e (publication_of p) i ≡ false
  pub stored : slice_get p.places (chunk_of e i) ≡ Some (Chunk chunk)

-- a chunk is damaged that a range needs: some place of the range lies in it, and what was fetched is not that chunk
pub record IsDamagedIn (tells : Bool) {R : Type 0} (e : Extent) (p : Part R) (at len chunk : ℕ) (recorded found : List ℕ) : Type 0 where
  pub place : ℕ
  pub from : at ≤ place
  pub to : place < at + len
  pub needed : IsNeeded e p place chunk
  pub other : IsOtherChunk tells p (stored_before p.places (chunk_of e place)) recorded found

-- one of some pieces, of an extent of the plan, has a damaged chunk that a range needs
pub record IsDamaged (plan : Planned) (tells : Bool) {R : Type 0} (pieces : List (Part R)) (at len chunk : ℕ) (recorded found : List ℕ) : Type 0 where
  pub number : ℕ
  pub piece : Part R
  pub extent : Extent
  pub seen : slice_get pieces number ≡ Some piece
  pub planned : slice_get plan.extents piece.extent ≡ Some extent
  pub damaged : IsDamagedIn tells extent piece at len chunk recorded found

-- the cause of an error in reading a range of a piece's extent
abbrev pub IsPieceFault : Bool → {R : Type 0} → Extent → Part R → ℕ → ℕ → ReadError → Type 0
IsPieceFault tells e p at len TooLong = ⊥
IsPieceFault tells e p at len PastEnd = ⊥
IsPieceFault tells e p at len Failed = Unit {0}
IsPieceFault tells e p at len (Damaged chunk recorded found) = IsDamagedIn tells e p at len chunk recorded found

-- a range is one that may be read of an image of a size
pub record MayRead (size at len : ℕ) : Type 0 where
  pub short : len ≤ MAX_READ
  pub inside : at + len ≤ size

-- the cause of an error by the numbers alone
abbrev pub IsRangeFault : ℕ → ℕ → ℕ → ReadError → Type 0
IsRangeFault size at len TooLong = MAX_READ < len
IsRangeFault size at len PastEnd = (len ≤ MAX_READ) × (size < at + len)
IsRangeFault size at len Failed = ⊥
IsRangeFault size at len (Damaged chunk recorded found) = ⊥

-- the cause of each error
abbrev pub IsFault : Planned → Bool → {R : Type 0} → List (Part R) → ℕ → ℕ → ReadError → Type 0
IsFault plan tells pieces at len TooLong = MAX_READ < len
IsFault plan tells pieces at len PastEnd = (len ≤ MAX_READ) × (plan.size < at + len)
IsFault plan tells pieces at len Failed = MayRead plan.size at len
IsFault plan tells pieces at len (Damaged chunk recorded found) = MayRead plan.size at len × IsDamaged plan tells pieces at len chunk recorded found
