-- Which refusal segments meet that are no map.
use Rattle.std.specs.Prelude.{◌≡◌, ◌≢◌, ℕ, ◌+◌, ◌%◌, ◌<◌, ◌≤◌, List, length, take, All, AllPairs, slice_index_or}
use Rattle.aff_fields.specs.declared.entry.Entry.{Entry}
use Rattle.aff_fields.specs.Entry.{entries_of}
use Rattle.aff_fields.specs.declared.error.FieldsError.{FieldsError}
use Rattle.aff_fields.specs.declared.error.FieldsError.TheVariants as fields
use Rattle.aff_map.specs.declared.error.MapError.{MapError}
use Rattle.aff_map.specs.declared.error.MapError.TheVariants.{Ragged, Empty, PastEnd, Overlap, NoTarget, BadTarget, PastTarget, Memory}
use Rattle.aff_map.specs.declared.target.Target.{Target}
use Rattle.aff_map.specs.Mapped.{AreApart, IsEntry, numbered_target, target_end}
use Rattle.aff_map.specs.Targets.{IsFirstUnnamed, IsNamed, target_lines, targets_of}

-- the same refusal, of a map
abbrev pub fault_of : FieldsError → MapError
fault_of (fields.Ragged len) = Ragged len
fault_of fields.Memory = Memory

-- an entry without bytes
abbrev pub no_entry : Entry
no_entry = record { at = 0; len = 0; target_at = 0; target = 0 }

-- the entry of a number; past the end of the list, one without bytes
abbrev pub entry_at : List Entry → ℕ → Entry
entry_at entries k = slice_index_or entries k no_entry

-- some bytes, inside the image
pub record LiesInside (size : ℕ) (e : Entry) : Type 0 where
  pub some : 0 < e.len
  pub inside : e.at + e.len ≤ size

-- the entry of a number breaks the rule of a refusal, and none that is asked before it: bytes, the image's end, a target that
-- there is, the target's end
abbrev pub Breaks : ℕ → ℕ → List Target → ℕ → Entry → MapError → Type 0
Breaks size stream_size targets k e (Empty i) = (i ≡ k) × (e.len ≡ 0)
Breaks size stream_size targets k e (PastEnd i) = (i ≡ k) × (0 < e.len) × (size < e.at + e.len)
Breaks size stream_size targets k e (NoTarget i) = (i ≡ k) × LiesInside size e × (length targets ≤ e.target)
Breaks size stream_size targets k e (PastTarget i) = (i ≡ k) × LiesInside size e × (e.target < length targets) × (target_end stream_size (numbered_target targets e.target) < e.target_at + e.len)
Breaks size stream_size targets k e (Ragged len) = ⊥
Breaks size stream_size targets k e (BadTarget line) = ⊥
Breaks size stream_size targets k e (Overlap a b) = ⊥
Breaks size stream_size targets k e Memory = ⊥

-- the refusal is that of the first entry that breaks such a rule
pub record IsOwnFault (size stream_size : ℕ) (targets : List Target) (entries : List Entry) (fault : MapError) : Type 0 where
  pub number : ℕ
  pub there : number < length entries
  pub before : (k : ℕ) → k < number → IsEntry size stream_size targets (entry_at entries k)
  pub breaks : Breaks size stream_size targets number (entry_at entries number) fault

-- b is the least number whose entry shares a byte with an earlier one, and a is the least such earlier one
pub record IsFirstOverlap (entries : List Entry) (a b : ℕ) : Type 0 where
  pub there : b < length entries
  pub before : AllPairs AreApart (take b entries)
  pub earlier : a < b
  pub shared : ¬ (AreApart (entry_at entries a) (entry_at entries b))
  pub first : (k : ℕ) → k < a → AreApart (entry_at entries k) (entry_at entries b)

-- whole entries, a target on each line, and the refusal of an entry by itself
pub record IsEntryFault (map idx : List ℕ) (size : ℕ) (stream : List ℕ) (stream_size : ℕ) (fault : MapError) : Type 0 where
  pub whole : length map % 28 ≡ 0
  pub named : All (IsNamed stream) (target_lines idx)
  pub own : IsOwnFault size stream_size (targets_of stream idx) (entries_of map) fault

-- the same with entries that break no rule by themselves, and the first overlap
pub record IsOverlapFault (map idx : List ℕ) (size : ℕ) (stream : List ℕ) (stream_size a b : ℕ) : Type 0 where
  pub whole : length map % 28 ≡ 0
  pub named : All (IsNamed stream) (target_lines idx)
  pub each : All (IsEntry size stream_size (targets_of stream idx)) (entries_of map)
  pub overlap : IsFirstOverlap (entries_of map) a b

-- the refusal that segments meet: the map's length, then the lines, then entry by entry from 0, and overlaps after all
-- entries; want of memory is no fault of the segments
abbrev pub IsMapFault : List ℕ → List ℕ → ℕ → List ℕ → ℕ → MapError → Type 0
IsMapFault map idx size stream stream_size (Ragged len) = (length map % 28 ≢ 0) × (len ≡ length map)
IsMapFault map idx size stream stream_size (BadTarget line) = (length map % 28 ≡ 0) × IsFirstUnnamed stream (target_lines idx) line
IsMapFault map idx size stream stream_size (Empty e) = IsEntryFault map idx size stream stream_size (Empty e)
IsMapFault map idx size stream stream_size (PastEnd e) = IsEntryFault map idx size stream stream_size (PastEnd e)
IsMapFault map idx size stream stream_size (NoTarget e) = IsEntryFault map idx size stream stream_size (NoTarget e)
IsMapFault map idx size stream stream_size (PastTarget e) = IsEntryFault map idx size stream stream_size (PastTarget e)
IsMapFault map idx size stream stream_size (Overlap a b) = IsOverlapFault map idx size stream stream_size a b
IsMapFault map idx size stream stream_size Memory = ⊥
