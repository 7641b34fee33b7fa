-- Which histories a plan may have.
use Rattle.std.specs.Prelude.{◌≡◌, ℕ, ◌+◌, ◌*◌, ◌/◌, ◌<◌, ◌≤◌, ◌⊎◌, Bool, true, false, List, [], ◌∷◌, length, take, Option, Some, IfSome, IsTrue, All, Contains, slice_index_or, MatchOption, slice_get}
use Rattle.std.specs.List.Sorted.{IsStrictlyIncreasing}
use Rattle.std.specs.List.{flat_map, range_with_len}
use Rattle.aff_model.specs.declared.limits.TheConstants.{SECTOR, CHUNK, CHUNK_SECTORS}
use Rattle.aff_model.specs.declared.extent.Extent.{Extent}
use Rattle.aff_model.specs.declared.publication.Place.{Place}
use Rattle.aff_model.specs.declared.publication.Place.TheVariants.{Zero, Chunk, Nothing}
use Rattle.aff_model.specs.Content.{Content, block_of}
use Rattle.aff_model.specs.Plan.{Planned, chunk_count}
use Rattle.aff_model.specs.History.{Published, readings_of, fresh_ones}

-- two sectors of an extent are of one block of the device
abbrev pub AreOneBlock : ℕ → Extent → ℕ → ℕ → Type 0
AreOneBlock block e s t = block_of block (e.at / SECTOR + s) ≡ block_of block (e.at / SECTOR + t)

-- a list of unreadable sectors fits an extent: it rises inside it, has the sectors of one block together, holds weak sectors
-- only, and every bad one
pub record Fits (case : Option Content) (block : ℕ) (e : Extent) (bad : List ℕ) : Type 0 where
  pub rising : IsStrictlyIncreasing bad
  pub inside : All (λ s. s < e.len / SECTOR) bad
  pub together : (s t : ℕ) → Contains bad s → t < e.len / SECTOR → AreOneBlock block e s t → Contains bad t
  pub weak : IfSome case (λ c. All (λ s. IsTrue (c.weak (e.at / SECTOR + s))) bad)
  pub every_bad : IfSome case (λ c. (s : ℕ) → s < e.len / SECTOR → IsTrue (c.bad (e.at / SECTOR + s)) → Contains bad s)

-- how many blocks a list has that has the sectors of each together
abbrev pub blocks_in : ℕ → List ℕ → ℕ
blocks_in block bad = SECTOR * length bad / block

-- sector s is one of chunk j of an extent
pub record IsSectorOf (e : Extent) (j s : ℕ) : Type 0 where
  pub from : CHUNK_SECTORS * j ≤ s
  pub to : s < CHUNK_SECTORS * j + CHUNK_SECTORS
  pub inside : s < e.len / SECTOR

-- no sector of the chunk could be read; each could be
abbrev pub NoneRead : Extent → List ℕ → ℕ → Type 0
NoneRead e bad j = (s : ℕ) → IsSectorOf e j s → Contains bad s

abbrev pub AllRead : Extent → List ℕ → ℕ → Type 0
AllRead e bad j = (s : ℕ) → IsSectorOf e j s → ¬ (Contains bad s)

-- all bytes of the chunk are 0
abbrev pub IsZeroChunk : Extent → ℕ → Content → Type 0
IsZeroChunk e j c = (k : ℕ) → CHUNK * j ≤ k → k < CHUNK * j + CHUNK → k < e.len → c.byte (e.at + k) ≡ 0

-- the place of chunk j: Nothing exactly where no sector was read, Zero exactly where each was and all bytes are 0 (of an
-- untold content: only where each was), else Chunk
abbrev pub IsPlaceOf : Option Content → Extent → List ℕ → ℕ → Place → Type 0
IsPlaceOf case e bad j Nothing = NoneRead e bad j
IsPlaceOf case e bad j Zero = AllRead e bad j × IfSome case (IsZeroChunk e j)
IsPlaceOf case e bad j (Chunk c) = (¬ (NoneRead e bad j)) × IfSome case (λ content. ¬ (AllRead e bad j × IsZeroChunk e j content))

-- a publication of an extent: its list fits, and it has one place a chunk
pub record IsPublished (case : Option Content) (block : ℕ) (e : Extent) (p : Published) : Type 0 where
  pub fits : Fits case block e p.bad
  pub count : length p.places ≡ chunk_count e.len
  pub places : (j : ℕ) (d : Place) → j < length p.places → IsPlaceOf case e p.bad j (slice_index_or p.places j d)

-- the chunk numbers of a list of places, and of a history
abbrev pub numbers_of : List Place → List ℕ
numbers_of [] = []
numbers_of (Zero ∷ places) = numbers_of places
numbers_of (Nothing ∷ places) = numbers_of places
numbers_of (Chunk c ∷ places) = c ∷ numbers_of places

abbrev pub chunk_numbers : List Published → List ℕ
chunk_numbers history = flat_map (λ p. numbers_of p.places) history

-- the claimant is a worker, or it is the sweep's number and the publication is swept
abbrev pub IsClaimant : ℕ → Published → Type 0
IsClaimant workers p = (p.claimant < workers) ⊎ ((p.claimant ≡ workers) × IsTrue p.swept)

-- what may be published behind the readings of its extent: a first reading (there is no second yet)
abbrev pub MayFollow : List Published → Published → Type 0
MayFollow [] p = Unit {0}
MayFollow (first ∷ readings) p = ⊥

-- each publication may follow those before it
abbrev pub AreReadings : List Published → Type 0
AreReadings history = (k : ℕ) (p : Published) → slice_get history k ≡ Some p → MayFollow (readings_of (take k history) p.extent) p

-- these are 0, 1, 2 and so on
abbrev pub AreCounted : List ℕ → Type 0
AreCounted numbers = numbers ≡ range_with_len 0 (length numbers)

-- a legal history of a plan, in any order and by any of the workers: readings of its extents; claimants; what could not be
-- read; places; and the chunk numbers that are new are 0, 1, 2 and so on
pub record IsLegal (case : Option Content) (plan : Planned) (workers : ℕ) (history : List Published) : Type 0 where
  pub readings : AreReadings history
  pub claimants : All (IsClaimant workers) history
  pub published : All (λ p. MatchOption (slice_get plan.extents p.extent) ⊥ (λ e. IsPublished case plan.block e p)) history
  pub numbered : AreCounted (chunk_numbers (fresh_ones history))

-- the readings of an extent are done: there is one
abbrev pub are_done : List Published → Bool
are_done [] = false
are_done (first ∷ readings) = true

-- the readings of every extent of the plan are done
abbrev pub IsComplete : List Extent → List Published → Type 0
IsComplete extents history = (k : ℕ) → k < length extents → IsTrue (are_done (readings_of history k))
