-- Reading around the blocks of an extent that cannot be read. Sectors are numbered inside the extent.
use Rattle.std.specs.Prelude.{◌≡◌, ℕ, ◌+◌, ◌-◌, ◌*◌, ◌/◌, ◌%◌, ◌^◌, ◌<◌, ◌≤◌, min, List, ◌++◌, length, slice_index, Option, IfSome, IsTrue, Contains}
use Rattle.std.specs.List.Sorted.{IsStrictlyIncreasing}
use Rattle.aff_model.specs.declared.limits.TheConstants.{SECTOR}
use Rattle.aff_model.specs.Content.{Content, block_of}
use Rattle.aff_model.specs.Legal.{blocks_in}
use Rattle.aff_outside.specs.Seen.{IsZeroSector}

-- the count rose by at least n, or stands at its last value
abbrev pub RoseBy : ℕ → ℕ → ℕ → Type 0
RoseBy n before now = min (before + n) (2 ^ 64 - 1) ≤ now

-- the bytes from an offset on are the content's, except those of the unreadable sectors
abbrev pub IsKnown : Content → ℕ → List ℕ → List ℕ → Type 0
IsKnown c at bytes bad = (k : ℕ) → k < length bytes → ¬ (Contains bad (k / SECTOR)) → slice_index bytes k ≡ c.byte (at + k)

-- what a content says of a part that begins with sector `first` of an extent: unreadable sectors are weak, bad ones are
-- unreadable, and other bytes are the content's
pub record IsToldPart (c : Content) (start first : ℕ) (bytes bad : List ℕ) : Type 0 where
  pub weak : (s : ℕ) → Contains bad s → IsTrue (c.weak (start / SECTOR + s))
  pub every_bad : (s : ℕ) → first ≤ s → s < first + length bytes / SECTOR → IsTrue (c.bad (start / SECTOR + s)) → Contains bad s
  pub known : (k : ℕ) → k < length bytes → ¬ (Contains bad (first + k / SECTOR)) → slice_index bytes k ≡ c.byte (start + SECTOR * first + k)

-- the unreadable sectors of such a part rise inside it, are whole blocks, and have bytes of 0
pub record IsPart (content : Option Content) (block start first : ℕ) (bytes bad : List ℕ) : Type 0 where
  pub rising : IsStrictlyIncreasing bad
  pub few : length bad ≤ length bytes / SECTOR
  pub low : (s : ℕ) → Contains bad s → first ≤ s
  pub high : (s : ℕ) → Contains bad s → s < first + length bytes / SECTOR
  pub together : (s t : ℕ) → Contains bad s → first ≤ t → t < first + length bytes / SECTOR → block_of block (start / SECTOR + s) ≡ block_of block (start / SECTOR + t) → Contains bad t
  pub whole : SECTOR * length bad % block ≡ 0
  pub zero : (s : ℕ) → Contains bad (first + s) → IsZeroSector bytes s
  pub told : IfSome content (λ c. IsToldPart c start first bytes bad)

-- a part was read, and its unreadable sectors were added to those before; the device's count shows a failed reading for
-- each of their blocks
pub record IsPartRead (content : Option Content) (block start first : ℕ) (bytes old new : List ℕ) (before now : ℕ) : Type 0 where
  pub bad : List ℕ
  pub added : new ≡ old ++ bad
  pub part : IsPart content block start first bytes bad
  pub rose : RoseBy (blocks_in block bad) before now

-- a part begins and ends with a block of the device
pub record IsRange (block start first len : ℕ) : Type 0 where
  pub start_whole : start % block ≡ 0
  pub first_whole : SECTOR * first % block ≡ 0
  pub len_whole : len % block ≡ 0
