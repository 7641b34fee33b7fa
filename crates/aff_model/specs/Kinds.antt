-- The answer by a history: what kind each place of a range is of, and the greatest runs of one kind.
use Rattle.std.specs.Prelude.{◌≡◌, ◌≢◌, ℕ, ◌<◌, Option, None, Some, List, [], ◌∷◌, length, map, All, replicate, slice_get, if◌then◌else◌}
use Rattle.std.specs.List.{AllAdjacentBelow, flat_map, range_with_len}
use Rattle.aff_model.specs.declared.cell.Kind.{Kind}
use Rattle.aff_model.specs.declared.cell.Kind.TheVariants.{Known, Unreadable, Unknown}
use Rattle.aff_model.specs.declared.cell.Run.{Run}
use Rattle.aff_model.specs.declared.extent.Extent.{Extent}
use Rattle.aff_model.specs.Cells.{is_bad_at}
use Rattle.aff_model.specs.History.{Published}
use Rattle.aff_model.specs.Plan.{has_place}

-- the kind of a place by a publication whose extent holds it, else by the others
abbrev pub kind_by : Option Extent → Published → ℕ → Kind → Kind
kind_by None p i others = others
kind_by (Some e) p i others = if has_place i e then (if is_bad_at e p i then Unreadable else Known) else others

-- the kind of a place after a history: unknown where no publication's extent holds it
abbrev pub kind_at : List Extent → List Published → ℕ → Kind
kind_at extents [] i = Unknown
kind_at extents (p ∷ history) i = kind_by (slice_get extents p.extent) p i (kind_at extents history i)

-- the kinds of the places of a range
abbrev pub kinds_of : List Extent → List Published → ℕ → ℕ → List Kind
kinds_of extents history at len = map (kind_at extents history) (range_with_len at len)

-- the kinds of the places of runs, one behind the other
abbrev pub spread : List Run → List Kind
spread runs = flat_map (λ r. replicate r.len r.kind) runs

-- runs are the greatest: none is empty, and no two neighbours are of one kind
pub record AreGreatest (runs : List Run) : Type 0 where
  pub some : All (λ r. 0 < r.len) runs
  pub apart : AllAdjacentBelow (λ r s. r.kind ≢ s.kind) runs (length runs)

-- the greatest runs of one kind of a range
pub record IsAnswer (extents : List Extent) (history : List Published) (at len : ℕ) (runs : List Run) : Type 0 where
  pub kinds : spread runs ≡ kinds_of extents history at len
  pub greatest : AreGreatest runs
