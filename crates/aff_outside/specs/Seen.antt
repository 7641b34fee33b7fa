-- A piece that an examiner may be shown, with its bytes.
use Rattle.std.specs.Prelude.{◌≡◌, ℕ, ◌+◌, ◌*◌, ◌/◌, ◌%◌, ◌^◌, ◌<◌, ◌≤◌, List, length, slice_index, All}
use Rattle.std.specs.List.Sorted.{IsStrictlyIncreasing}
use Rattle.aff_model.specs.declared.limits.TheConstants.{SECTOR, MAX_EXTENT}
use Rattle.aff_model.specs.Shown.{Shown}

-- all bytes of the sector are 0
abbrev pub IsZeroSector : List ℕ → ℕ → Type 0
IsZeroSector bytes s = (k : ℕ) → k < SECTOR → slice_index bytes (SECTOR * s + k) ≡ 0

-- these are the piece's bytes: whole sectors, not too many, on a device of at most 2^64 - 1 bytes, whose unreadable
-- sectors rise inside it and have bytes of 0
pub record IsSeen (piece : Shown) (bytes : List ℕ) : Type 0 where
  pub len : length bytes ≡ piece.len
  pub whole : piece.len % SECTOR ≡ 0
  pub short : piece.len ≤ MAX_EXTENT
  pub fits : piece.at + piece.len < 2 ^ 64
  pub rising : IsStrictlyIncreasing piece.bad
  pub inside : All (λ s. s < piece.len / SECTOR) piece.bad
  pub zero : All (IsZeroSector bytes) piece.bad
