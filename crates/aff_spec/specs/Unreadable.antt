-- Which sectors of a device a history could not read. Sectors are numbered over the device.
use Rattle.std.specs.Prelude.{ℕ, ◌+◌, ◌/◌, ◌==◌, Bool, false, ◌||◌, List, [], ◌∷◌, Option, None, Some, slice_get}
use Rattle.std.specs.List.{list_any}
use Rattle.aff_model.specs.declared.limits.TheConstants.{SECTOR}
use Rattle.aff_model.specs.declared.extent.Extent.{Extent}
use Rattle.aff_model.specs.History.{Published}

-- the publication has the sector in its list, where its extent is one of the plan's
abbrev pub is_unreadable_by : Option Extent → Published → ℕ → Bool
is_unreadable_by None p s = false
is_unreadable_by (Some e) p s = list_any (λ k. e.at / SECTOR + k == s) p.bad

-- some publication has the sector in its list
abbrev pub is_unreadable : List Extent → List Published → ℕ → Bool
is_unreadable extents [] s = false
is_unreadable extents (p ∷ history) s = is_unreadable_by (slice_get extents p.extent) p s || is_unreadable extents history s
