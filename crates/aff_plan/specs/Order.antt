-- The order in which a plan's extents are wanted.
use Rattle.std.specs.Prelude.{◌≡◌, ℕ, ◌<◌, ◌≤◌, ◌⊎◌, List, length, AllPairs}
use Rattle.std.specs.declared.cmp.Reverse.{Reverse}
use Rattle.aff_model.specs.declared.extent.Extent.{Extent}
use Rattle.aff_model.specs.Index.{extent_at, start_of}
use Rattle.aff_order.specs.Order.{IsOrder}

-- an extent is wanted before another: it has more priority, or the same and begins before it; no two extents of a plan
-- begin at one place
abbrev pub IsBefore : Extent → Extent → Type 0
IsBefore e f = (f.priority < e.priority) ⊎ ((e.priority ≡ f.priority) × (e.at ≤ f.at))

-- the numbers of all extents, each before those that are wanted later
pub record IsOrderOf (extents : List Extent) (order : List ℕ) : Type 0 where
  pub numbers : IsOrder order
  pub all : length order ≡ length extents
  pub falls : AllPairs (λ i j. IsBefore (extent_at extents i) (extent_at extents j)) order

-- what an extent is sorted by: its priority, the greatest first, and then its first byte
abbrev pub rank_of : List Extent → ℕ → Reverse ℕ × ℕ
rank_of extents k = (record { 0 = (extent_at extents k).priority }, start_of extents k)
