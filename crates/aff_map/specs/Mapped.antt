-- Maps as they are read: entries over targets.
use Rattle.std.specs.Prelude.{◌≡◌, ℕ, ◌+◌, ◌%◌, ◌^◌, ◌<◌, ◌≤◌, ◌⊎◌, List, length, All, AllPairs, slice_index_or}
use Rattle.aff_fields.specs.declared.entry.Entry.{Entry}
use Rattle.aff_fields.specs.Entry.{entries_of}
use Rattle.aff_map.specs.declared.target.Target.{Target}
use Rattle.aff_map.specs.declared.target.Target.TheVariants.{Stored, Zero, Unknown, Unreadable}
use Rattle.aff_map.specs.Building.{IsBefore}
use Rattle.aff_map.specs.Targets.{IsNamed, target_lines, targets_of}

-- a map as a caller sees it: its entries, the targets of their numbers, the sizes of the image and of the stream in bytes,
-- and what the image has where no entry is
pub record Mapped : Type 0 where
  pub entries : List Entry
  pub targets : List Target
  pub size : ℕ
  pub stream_size : ℕ
  pub gap : Target

-- the target of a number
abbrev pub numbered_target : List Target → ℕ → Target
numbered_target targets number = slice_index_or targets number Stored

-- the place behind a target's last byte: a symbolic stream has a byte at each place of 64 bits
abbrev pub target_end : ℕ → Target → ℕ
target_end stream_size Stored = stream_size
target_end stream_size Zero = 2 ^ 64
target_end stream_size Unknown = 2 ^ 64
target_end stream_size Unreadable = 2 ^ 64

-- an entry over targets: some bytes, inside the image, of a target that there is, and inside that target
pub record IsEntry (size stream_size : ℕ) (targets : List Target) (e : Entry) : Type 0 where
  pub some : 0 < e.len
  pub inside : e.at + e.len ≤ size
  pub known : e.target < length targets
  pub reaches : e.target_at + e.len ≤ target_end stream_size (numbered_target targets e.target)

-- two entries share no byte
abbrev pub AreApart : Entry → Entry → Type 0
AreApart e f = IsBefore e f ⊎ IsBefore f e

-- an entry has bytes, and its end is a number of 64 bits
abbrev pub HasBytes : Entry → Type 0
HasBytes e = (0 < e.len) × (e.at + e.len < 2 ^ 64)

-- the entries of a map lie in the image and in their targets, and no two share a byte
pub record IsMap (m : Mapped) : Type 0 where
  pub each : All (IsEntry m.size m.stream_size m.targets) m.entries
  pub apart : AllPairs AreApart m.entries

-- the bytes of a map and the list of its targets are those of a map: whole entries, a target on each line, and entries that
-- lie in the image and in their targets, of which no two share a byte
pub record IsSound (map idx : List ℕ) (size : ℕ) (stream : List ℕ) (stream_size : ℕ) : Type 0 where
  pub whole : length map % 28 ≡ 0
  pub named : All (IsNamed stream) (target_lines idx)
  pub each : All (IsEntry size stream_size (targets_of stream idx)) (entries_of map)
  pub apart : AllPairs AreApart (entries_of map)
