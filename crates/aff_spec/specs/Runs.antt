-- Maps: which place of which target each byte of an image has.
use Rattle.std.specs.Prelude.{◌≡◌, ℕ, ◌+◌, ◌-◌, ◌*◌, ◌/◌, ◌%◌, ◌<◌, ◌≤◌, Bool, ◌&&◌, nat_le, nat_lt, List, [], ◌∷◌, length, All, Option, None, Some, find, slice_get, slice_index_or, if◌then◌else◌}
use Rattle.std.specs.Option.{option_map}
use Rattle.aff_model.specs.declared.limits.TheConstants.{CHUNK}
use Rattle.aff_model.specs.declared.extent.Extent.{Extent}
use Rattle.aff_model.specs.declared.publication.Place.{Place}
use Rattle.aff_model.specs.declared.publication.Place.TheVariants.{Zero, Chunk, Nothing}
use Rattle.aff_model.specs.Plan.{has_place}
use Rattle.aff_model.specs.History.{Published}
use Rattle.aff_model.specs.Cells.{is_bad_at}
use Rattle.aff_fields.specs.declared.entry.Entry.{Entry}

-- a spot is a target by its number, and a place in it
abbrev pub Spot : Type 0
Spot = ℕ × ℕ

-- the entry covers the place of the image
abbrev pub covers : ℕ → Entry → Bool
covers i e = nat_le e.at i && nat_lt i (e.at + e.len)

-- where an entry leads
abbrev pub spot_in : ℕ → Entry → Spot
spot_in i e = (e.target, e.target_at + (i - e.at))

-- map lookup, a search over all entries: where the entry leads that covers the place
abbrev pub lookup : List Entry → ℕ → Option Spot
lookup entries i = option_map (spot_in i) (find (covers i) entries)

-- the spot of a byte by where its chunk is kept: stored bytes are target 0, zeros target 1, unreadable ones target 2
abbrev pub place_spot : Option Place → Extent → ℕ → Option Spot
place_spot None e i = None
place_spot (Some Zero) e i = Some (1, i)
place_spot (Some (Chunk c)) e i = Some (0, CHUNK * c + (i - e.at) % CHUNK)
place_spot (Some Nothing) e i = Some (2, i)

-- the spot of a byte of a published extent
abbrev pub published_spot : Extent → Published → ℕ → Option Spot
published_spot e p i = if is_bad_at e p i then Some (2, i) else place_spot (slice_get p.places ((i - e.at) / CHUNK)) e i

-- the spot by a publication whose extent holds the place, else by the others
abbrev pub spot_by : Option Extent → Published → ℕ → Option Spot → Option Spot
spot_by None p i others = others
spot_by (Some e) p i others = if has_place i e then published_spot e p i else others

-- the spot of each byte of an image after a history, and none outside its extents
abbrev pub history_spot : List Extent → List Published → ℕ → Option Spot
history_spot extents [] i = None
history_spot extents (p ∷ history) i = spot_by (slice_get extents p.extent) p i (history_spot extents history i)

-- two entries are one run: neighbours in the image, of one target, and neighbours in it
pub record AreJoined (e f : Entry) : Type 0 where
  pub image : e.at + e.len ≡ f.at
  pub target : e.target ≡ f.target
  pub place : e.target_at + e.len ≡ f.target_at

-- the entries of a map are the greatest runs of its spots, sorted by their place in the image
pub record AreGreatestRuns (spot : ℕ → Option Spot) (entries : List Entry) : Type 0 where
  pub spots : (i : ℕ) → lookup entries i ≡ spot i
  pub some : All (λ e. 0 < e.len) entries
  pub sorted : (k : ℕ) (d : Entry) → k + 1 < length entries → (slice_index_or entries k d).at + (slice_index_or entries k d).len ≤ (slice_index_or entries (k + 1) d).at
  pub greatest : (k : ℕ) (d : Entry) → k + 1 < length entries → ¬ (AreJoined (slice_index_or entries k d) (slice_index_or entries (k + 1) d))
