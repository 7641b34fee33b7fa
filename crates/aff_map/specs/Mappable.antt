-- Which pieces have a map.
use Rattle.std.specs.Prelude.{◌≡◌, ◌<◌, ◌^◌, List, length, map, nat_eq, All, MatchOption, slice_get}
use Rattle.std.specs.List.{IsDistinct}
use Rattle.std.specs.List.Sorted.{IsStrictlyIncreasing}
use Rattle.aff_model.specs.declared.extent.Extent.{Extent}
use Rattle.aff_model.specs.declared.publication.Place.{Place}
use Rattle.aff_model.specs.declared.publication.Place.TheVariants.{Zero, Chunk, Nothing}
use Rattle.aff_model.specs.Plan.{chunk_count}
use Rattle.aff_model.specs.History.{Published}

-- the chunk's number leaves room for places in the stream
abbrev pub IsNumbered : Place → Type 0
IsNumbered Zero = Unit {0}
IsNumbered (Chunk c) = c < 2 ^ 48
IsNumbered Nothing = Unit {0}

-- what an extent's publication has: unreadable sectors that rise, and a place for each chunk
pub record IsMappable (e : Extent) (p : Published) : Type 0 where
  pub rising : IsStrictlyIncreasing p.bad
  pub count : length p.places ≡ chunk_count e.len
  pub numbered : All IsNumbered p.places

-- publications of distinct extents of a list
pub record AreMappable (extents : List Extent) (history : List Published) : Type 0 where
  pub once : IsDistinct nat_eq (map (λ p. p.extent) history)
  pub published : All (λ p. MatchOption (slice_get extents p.extent) ⊥ (λ e. IsMappable e p)) history
