-- Points of an index: twelve bytes, the place in the bevvy and the stored length, the lowest byte first.
use Rattle.std.specs.Prelude.{ℕ, zero, suc, ◌*◌, ◌/◌, ◌<◌, ◌^◌, List, [], ◌∷◌, ◌++◌, length, drop}
use Rattle.std.specs.Int.{to_le_bytes, w64, w32}
use Rattle.byteorder.specs.Endian.{little_number}
use Rattle.aff_fields.specs.declared.point.Point.{Point}

-- the point that the first twelve bytes are
abbrev pub point_of : List ℕ → Point
point_of bytes = record { at = little_number 8 bytes; len = little_number 4 (drop 8 bytes) }

-- the bytes of a point
abbrev pub point_bytes : Point → List ℕ
point_bytes p = to_le_bytes w64 p.at ++ to_le_bytes w32 p.len

-- the numbers are those of the type
pub record FitsPoint (p : Point) : Type 0 where
  pub at : p.at < 2 ^ 64
  pub len : p.len < 2 ^ 32

-- point k of an index
abbrev pub point_at : List ℕ → ℕ → Point
point_at index k = point_of (drop (12 * k) index)

-- the first n points of an index, and all of them
abbrev pub points_from : ℕ → List ℕ → List Point
points_from zero bytes = []
points_from (suc n) bytes = point_of bytes ∷ points_from n (drop 12 bytes)

abbrev pub points_of : List ℕ → List Point
points_of bytes = points_from (length bytes / 12) bytes
