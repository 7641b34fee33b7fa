-- A map while it is made, from the image's first byte on.
use Rattle.std.specs.Prelude.{◌≡◌, ℕ, ◌+◌, ◌-◌, ◌/◌, ◌<◌, ◌≤◌, ◌==◌, List, length, Option, Some, All, AllPairs, slice_get, if◌then◌else◌}
use Rattle.std.specs.List.{AllAdjacentBelow, list_any}
use Rattle.aff_model.specs.declared.limits.TheConstants.{CHUNK}
use Rattle.aff_model.specs.declared.extent.Extent.{Extent}
use Rattle.aff_model.specs.declared.publication.Place.{Place}
use Rattle.aff_model.specs.Cells.{sector_in}
use Rattle.aff_fields.specs.declared.entry.Entry.{Entry}
use Rattle.aff_fields.specs.Entry.{FitsEntry}
use Rattle.aff_spec.specs.Runs.{Spot, AreJoined, lookup, place_spot}

-- the entry ends at or before the next one begins
abbrev pub IsBefore : Entry → Entry → Type 0
IsBefore e f = e.at + e.len ≤ f.at

-- the entries are the greatest runs of the spots below a place
pub record AreRunsBelow (spot : ℕ → Option Spot) (end : ℕ) (entries : List Entry) : Type 0 where
  pub spots : (i : ℕ) → i < end → lookup entries i ≡ spot i
  pub ends : All (λ e. e.at + e.len ≤ end) entries
  pub some : All (λ e. 0 < e.len) entries
  pub sorted : AllPairs IsBefore entries
  pub greatest : AllAdjacentBelow (λ e f. ¬ (AreJoined e f)) entries (length entries)

-- the two say the same from a place on, up to another
abbrev pub Agree : ℕ → ℕ → (ℕ → Option Spot) → (ℕ → Option Spot) → Type 0
Agree from to f g = (i : ℕ) → from ≤ i → i < to → f i ≡ g i

-- the map was made longer by the spots of a range, whatever spots it is of
pub record Adds (from to : ℕ) (spots : ℕ → Option Spot) (old new : List Entry) : Type 0 where
  pub runs : (spot : ℕ → Option Spot) → AreRunsBelow spot from old → Agree from to spots spot → AreRunsBelow spot to new
  pub fits : All FitsEntry old → All FitsEntry new

-- the spot of a byte of an extent whose chunk is kept at a place, by the extent's unreadable sectors
abbrev pub sector_spot : Extent → List ℕ → Option Place → ℕ → Option Spot
sector_spot e bad place i = if list_any (λ s. s == sector_in e i) bad then Some (2, i) else place_spot place e i

-- the spot of a byte of an extent by its unreadable sectors and the places of its chunks
abbrev pub extent_spot : Extent → List ℕ → List Place → ℕ → Option Spot
extent_spot e bad places i = sector_spot e bad (slice_get places ((i - e.at) / CHUNK)) i
