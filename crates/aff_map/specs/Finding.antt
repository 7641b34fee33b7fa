-- Where a byte of an image comes from.
use Rattle.std.specs.Prelude.{◌≡◌, ℕ, ◌+◌, ◌<◌, ◌≤◌, List, All, Any, Option, Some, None}
use Rattle.std.specs.Option.{option_map}
use Rattle.aff_fields.specs.declared.entry.Entry.{Entry}
use Rattle.aff_spec.specs.Runs.{lookup}
use Rattle.aff_map.specs.declared.map.Spot.{Spot}
use Rattle.aff_map.specs.Mapped.{Mapped, numbered_target, target_end}

-- a place leads to what was looked up for it, a target by its number and a place in it; where nothing was found, to the same
-- place of the gap's target
abbrev pub LeadsTo : Mapped → ℕ → Option (ℕ × ℕ) → Spot → Type 0
LeadsTo m at None s = (s.target ≡ m.gap) × (s.target_at ≡ at)
LeadsTo m at (Some found) s = (s.target ≡ numbered_target m.targets found.0) × (s.target_at ≡ found.1)

-- a place with no entry on it has none up to an end behind it: the image's end, or where an entry begins
pub record IsGapEnd (entries : List Entry) (size at end : ℕ) : Type 0 where
  pub behind : at < end
  pub inside : end ≤ size
  pub free : All (λ e. at < e.at → end ≤ e.at) entries
  pub reached : end < size → Any (λ e. e.at ≡ end) entries

-- the run of a place ends with the entry that covers it, else where the gap ends
abbrev pub EndsAt : Mapped → ℕ → Option Entry → ℕ → Type 0
EndsAt m at None end = IsGapEnd m.entries m.size at end
EndsAt m at (Some e) end = end ≡ e.at + e.len

-- where an entry leads, the run stays inside the target
abbrev pub ReachesInto : Mapped → Option (ℕ × ℕ) → Spot → Type 0
ReachesInto m None s = Unit {0}
ReachesInto m (Some found) s = s.target_at + s.len ≤ target_end m.stream_size s.target

-- each byte of a run leads as far behind the place of the first as it lies behind the first
abbrev pub GoesOn : List Entry → ℕ → ℕ → Type 0
GoesOn entries at len = (j : ℕ) → j < len → lookup entries (at + j) ≡ option_map (λ s. (s.0, s.1 + j)) (lookup entries at)
