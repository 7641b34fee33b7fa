-- Plans: which extents may be read together.
use Rattle.std.specs.Prelude.{◌≡◌, ℕ, ◌+◌, ◌-◌, ◌/◌, ◌%◌, ◌<◌, ◌≤◌, ◌⊎◌, Bool, ◌&&◌, nat_le, nat_lt, List, length, sum_by, All, AllPairs}
use Rattle.aff_model.specs.declared.limits.TheConstants.{CHUNK, MAX_EXTENT, MAX_EXTENTS, MAX_TOTAL, MAX_PRIORITY}
use Rattle.aff_model.specs.declared.extent.Extent.{Extent}
use Rattle.aff_model.specs.Content.{IsBlock}

-- one extent by itself, on a device of a size and a block size: whole blocks, some of them, not too many, inside, a priority
-- from 0 to 9
pub record IsExtent (size block : ℕ) (e : Extent) : Type 0 where
  pub at_whole : e.at % block ≡ 0
  pub len_whole : e.len % block ≡ 0
  pub some : 0 < e.len
  pub short : e.len ≤ MAX_EXTENT
  pub inside : e.at + e.len ≤ size
  pub priority : e.priority ≤ MAX_PRIORITY

-- two extents share no byte
abbrev pub AreApart : Extent → Extent → Type 0
AreApart e f = (e.at + e.len ≤ f.at) ⊎ (f.at + f.len ≤ e.at)

-- how many bytes some extents have together
abbrev pub bytes_in : List Extent → ℕ
bytes_in extents = sum_by (λ e. e.len) extents

-- a valid plan: at most 65,536 such extents, of at most 2^40 bytes together, of which no two share a byte
pub record IsPlan (size block : ℕ) (extents : List Extent) : Type 0 where
  pub is_block : IsBlock block
  pub each : All (IsExtent size block) extents
  pub few : length extents ≤ MAX_EXTENTS
  pub total : bytes_in extents ≤ MAX_TOTAL
  pub apart : AllPairs AreApart extents

-- a plan as a caller sees it: its extents by number, and the device's size and block size
pub record Planned : Type 0 where
  pub extents : List Extent
  pub size : ℕ
  pub block : ℕ

-- the extent has the byte of an offset
abbrev pub has_place : ℕ → Extent → Bool
has_place i e = nat_le e.at i && nat_lt i (e.at + e.len)

-- how many chunks a length in bytes has, the last of them perhaps short
abbrev pub chunk_count : ℕ → ℕ
chunk_count len = (len + (CHUNK - 1)) / CHUNK

-- how many chunks the extents have together
abbrev pub chunks_of : List Extent → ℕ
chunks_of extents = sum_by (λ e. chunk_count e.len) extents
