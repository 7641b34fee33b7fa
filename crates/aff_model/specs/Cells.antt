-- What an image has at a place after a history.
use Rattle.std.specs.Prelude.{ℕ, ◌-◌, ◌/◌, ◌==◌, Bool, List, [], ◌∷◌, Option, None, Some, slice_get, if◌then◌else◌}
use Rattle.std.specs.List.{list_any}
use Rattle.aff_model.specs.declared.limits.TheConstants.{SECTOR}
use Rattle.aff_model.specs.declared.extent.Extent.{Extent}
use Rattle.aff_model.specs.declared.cell.Cell.{Cell}
use Rattle.aff_model.specs.declared.cell.Cell.TheVariants.{Byte, Unreadable, Unknown}
use Rattle.aff_model.specs.Content.{Content}
use Rattle.aff_model.specs.Plan.{has_place}
use Rattle.aff_model.specs.History.{Published}

-- the sector of a place, counted from the first of an extent that holds it
abbrev pub sector_in : Extent → ℕ → ℕ
sector_in e i = i / SECTOR - e.at / SECTOR

-- the sector of a place in a published extent could not be read
abbrev pub is_bad_at : Extent → Published → ℕ → Bool
is_bad_at e p i = list_any (λ s. s == sector_in e i) p.bad

-- the cell by a publication whose extent holds the place, else by the others
abbrev pub cell_by : Content → Option Extent → Published → ℕ → Cell → Cell
cell_by c None p i others = others
cell_by c (Some e) p i others = if has_place i e then (if is_bad_at e p i then Unreadable else Byte (c.byte i)) else others

-- the cell of a place after a history: unknown where no publication's extent holds it
abbrev pub cell_of : Content → List Extent → List Published → ℕ → Cell
cell_of c extents [] i = Unknown
cell_of c extents (p ∷ history) i = cell_by c (slice_get extents p.extent) p i (cell_of c extents history i)

-- the acquired content of a plan: unknown outside it, unreadable where the place's sector is marked (sectors are numbered
-- over the device), else the device's byte
abbrev pub content_of : Content → List Extent → (ℕ → Bool) → ℕ → Cell
content_of c extents unreadable i =
    if list_any (has_place i) extents then (if unreadable (i / SECTOR) then Unreadable else Byte (c.byte i)) else Unknown
