-- Entries of a map: 28 bytes, four numbers, the lowest byte first (AFF4 Standard v1.0, map segment).
use Rattle.std.specs.Prelude.{ℕ, zero, suc, ◌/◌, ◌<◌, ◌^◌, List, [], ◌∷◌, ◌++◌, length, drop}
use Rattle.std.specs.Int.{to_le_bytes, w64, w32}
use Rattle.byteorder.specs.Endian.{little_number}
use Rattle.aff_fields.specs.declared.entry.Entry.{Entry}

-- the entry that the first 28 bytes are
abbrev pub entry_of : List ℕ → Entry
entry_of bytes = record {
  at = little_number 8 bytes;
  len = little_number 8 (drop 8 bytes);
  target_at = little_number 8 (drop 16 bytes);
  target = little_number 4 (drop 24 bytes);
}

-- the bytes of an entry
abbrev pub entry_bytes : Entry → List ℕ
entry_bytes e = to_le_bytes w64 e.at ++ (to_le_bytes w64 e.len ++ (to_le_bytes w64 e.target_at ++ to_le_bytes w32 e.target))

-- the numbers are those of the type
pub record FitsEntry (e : Entry) : Type 0 where
  pub at : e.at < 2 ^ 64
  pub len : e.len < 2 ^ 64
  pub target_at : e.target_at < 2 ^ 64
  pub target : e.target < 2 ^ 32

-- the first n entries of a map, and all of them
abbrev pub entries_from : ℕ → List ℕ → List Entry
entries_from zero bytes = []
entries_from (suc n) bytes = entry_of bytes ∷ entries_from n (drop 28 bytes)

abbrev pub entries_of : List ℕ → List Entry
entries_of bytes = entries_from (length bytes / 28) bytes
