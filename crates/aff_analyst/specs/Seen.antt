-- Which of some pieces is of an extent.
use Rattle.std.specs.Prelude.{◌≡◌, ◌≢◌, ℕ, ◌<◌, List, length, map, slice_index}
use Rattle.aff_model.specs.History.{Part}

-- the extents of pieces, in their order
abbrev pub extents_of : {R : Type 0} → List (Part R) → List ℕ
extents_of pieces = map (λ p. p.extent) pieces

-- piece q is of the extent, and none before it
pub record IsFirstOf {R : Type 0} (pieces : List (Part R)) (extent q : ℕ) : Type 0 where
  pub inside : q < length pieces
  pub is : slice_index (extents_of pieces) q ≡ extent
  pub first : (k : ℕ) → k < q → slice_index (extents_of pieces) k ≢ extent

-- no piece is of the extent
abbrev pub IsOfNone : {R : Type 0} → List (Part R) → ℕ → Type 0
IsOfNone pieces extent = (k : ℕ) → k < length pieces → slice_index (extents_of pieces) k ≢ extent
