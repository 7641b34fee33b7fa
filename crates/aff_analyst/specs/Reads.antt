-- How a range is read, one part after another.
use Rattle.std.specs.Prelude.{◌≡◌, ℕ, ◌+◌, ◌-◌, ◌/◌, ◌%◌, ◌<◌, ◌≤◌, ◌^◌, Bool, false, List, ◌++◌, length, map, slice_index, if◌then◌else◌}
use Rattle.std.specs.List.{range_with_len}
use Rattle.std.specs.List.Sorted.{IsStrictlyIncreasing}
use Rattle.aff_model.specs.declared.limits.TheConstants.{SECTOR, CHUNK, MAX_READ, MAX_RUNS, MAX_EXTENT}
use Rattle.aff_model.specs.declared.cell.Kind.{Kind}
use Rattle.aff_model.specs.declared.cell.Kind.TheVariants.{Known, Unreadable}
use Rattle.aff_model.specs.declared.cell.Run.{Run}
use Rattle.aff_model.specs.declared.extent.Extent.{Extent}
use Rattle.aff_model.specs.Cells.{is_bad_at}
use Rattle.aff_model.specs.History.{Part, publication_of}
use Rattle.aff_model.specs.Kinds.{AreGreatest, spread}
use Rattle.aff_analyst.specs.Bytes.{Keeps}

-- how many sectors a range touches
abbrev pub sectors_in : ℕ → ℕ → ℕ
sectors_in at len = (at + len + (SECTOR - 1)) / SECTOR - at / SECTOR

-- runs have room for those of a range more
pub record HaveRoom (at len : ℕ) (runs : List Run) : Type 0 where
  pub greatest : AreGreatest runs
  pub few : length runs + sectors_in at len ≤ MAX_RUNS
  pub short : length (spread runs) + len ≤ MAX_READ

-- a first part of a range of some bytes has this length: it ends with the range, or where a sector ends
pub record IsStep (at len count : ℕ) : Type 0 where
  pub some : 0 < count
  pub few : count ≤ len
  pub met : count < len → (at + count) % SECTOR ≡ 0

-- a part of a range was read: its kinds are behind those of the runs, and each of its bytes is shown
pub record IsReadTo (kind : ℕ → Kind) (shown : ℕ → ℕ → Type 0) (at : ℕ) (bytes : List ℕ) (before after : List Run) : Type 0 where
  pub kinds : spread after ≡ spread before ++ map kind (range_with_len at (length bytes))
  pub greatest : AreGreatest after
  pub few : length after ≤ length before + sectors_in at (length bytes)
  pub each : (k : ℕ) → k < length bytes → shown (at + k) (slice_index bytes k)

-- the kind of a place of a piece's extent
abbrev pub kind_in : Extent → {R : Type 0} → Part R → ℕ → Kind
kind_in e p i = if is_bad_at e (publication_of p) i then Unreadable else Known

-- a range inside an extent
pub record IsInside (e : Extent) (at len : ℕ) : Type 0 where
  pub from : e.at ≤ at
  pub to : at + len ≤ e.at + e.len

-- a range inside one chunk of an extent
pub record IsInChunk (e : Extent) (at len : ℕ) : Type 0 where
  pub inside : IsInside e at len
  pub one : (at - e.at) % CHUNK + len ≤ CHUNK

-- an extent of whole sectors, and not too many
pub record IsWhole (e : Extent) : Type 0 where
  pub at_whole : e.at % SECTOR ≡ 0
  pub len_whole : e.len % SECTOR ≡ 0
  pub short : e.len ≤ MAX_EXTENT
  pub fits : e.at + e.len < 2 ^ 64

-- each byte of a range of a piece's extent that could be read is the one that the piece keeps
abbrev pub AreKept : Bool → {R : Type 0} → (R → List ℕ) → Extent → Part R → ℕ → List ℕ → Type 0
AreKept tells told e p at bytes = (k : ℕ) → k < length bytes → is_bad_at e (publication_of p) (at + k) ≡ false → Keeps tells told e p (at + k) (slice_index bytes k)
