-- What a device holds. Sectors of 512 bytes are numbered over the whole device, from 0.
use Rattle.std.specs.Prelude.{ℕ, ◌+◌, ◌*◌, ◌<◌, ◌≤◌, ◌≡◌, ◌/◌, ◌⊎◌, Bool, List, length, slice_index, IsTrue}
use Rattle.aff_model.specs.declared.limits.TheConstants.{SECTOR, LARGE_BLOCK}

-- a device reads in blocks of this many bytes: one sector, or eight
abbrev pub IsBlock : ℕ → Type 0
IsBlock block = (block ≡ SECTOR) ⊎ (block ≡ LARGE_BLOCK)

-- the block of a sector
abbrev pub block_of : ℕ → ℕ → ℕ
block_of block s = SECTOR * s / block

-- the sectors of one block have the mark together
abbrev pub AreTogether : ℕ → (ℕ → Bool) → Type 0
AreTogether block mark = (s t : ℕ) → block_of block s ≡ block_of block t → mark s ≡ mark t

-- a block size, a byte for each place, the sectors whose reading may fail (weak), and those whose reading fails (bad)
pub record Content : Type 0 where
  pub block : ℕ
  pub byte : ℕ → ℕ
  pub weak : ℕ → Bool
  pub bad : ℕ → Bool
  pub is_block : IsBlock block
  pub bad_is_weak : (s : ℕ) → IsTrue (bad s) → IsTrue (weak s)
  pub weak_together : AreTogether block weak
  pub bad_together : AreTogether block bad

-- these bytes are the content's from an offset on
abbrev pub IsRead : Content → ℕ → List ℕ → Type 0
IsRead c at bytes = (k : ℕ) → k < length bytes → slice_index bytes k ≡ c.byte (at + k)

-- some sector of a range of whole sectors has the mark
abbrev pub Touches : (ℕ → Bool) → ℕ → ℕ → Type 0
Touches mark at len = (s : ℕ) × (at / SECTOR ≤ s) × (s < (at + len) / SECTOR) × IsTrue (mark s)
