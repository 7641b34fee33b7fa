-- The order in which pieces come in the image.
use Rattle.std.specs.Prelude.{◌≡◌, ℕ, ◌+◌, ◌<◌, ◌≤◌, List, length, All, AllPairs, slice_get, slice_index_or, Some}
use Rattle.aff_model.specs.declared.extent.Extent.{Extent}
use Rattle.aff_model.specs.History.{Published}
use Rattle.aff_map.specs.declared.order.Turn.{Turn}

-- the turn has the number of a publication and its extent
abbrev pub IsTurnOf : List Extent → List Published → Turn → Type 0
IsTurnOf extents history t = (p : Published) × (slice_get history t.number ≡ Some p) × (slice_get extents p.extent ≡ Some t.extent)

-- the first extent ends at or before the second begins
abbrev pub ComesBefore : Turn → Turn → Type 0
ComesBefore t u = t.extent.at + t.extent.len ≤ u.extent.at

-- the turns are those of the publications, in the same order
pub record AreGathered (extents : List Extent) (history : List Published) (turns : List Turn) : Type 0 where
  pub count : length turns ≡ length history
  pub numbers : (k : ℕ) (d : Turn) → k < length turns → (slice_index_or turns k d).number ≡ k
  pub each : All (IsTurnOf extents history) turns

-- every publication has its turn, in the order of the image
pub record AreTurns (extents : List Extent) (history : List Published) (turns : List Turn) : Type 0 where
  pub each : All (IsTurnOf extents history) turns
  pub every : (k : ℕ) → k < length history → (m : ℕ) × (m < length turns) × ((d : Turn) → (slice_index_or turns m d).number ≡ k)
  pub ordered : AllPairs ComesBefore turns
