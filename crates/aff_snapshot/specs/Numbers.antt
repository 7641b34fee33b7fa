-- Plans as numbers, which a ghost tag can keep.
use Rattle.std.specs.Prelude.{ℕ, List, [], ◌∷◌}
use Rattle.aff_model.specs.declared.extent.Extent.{Extent}
use Rattle.aff_model.specs.Plan.{Planned}

-- each extent is three numbers
abbrev pub extent_numbers : List Extent → List ℕ
extent_numbers [] = []
extent_numbers (e ∷ extents) = e.at ∷ e.len ∷ e.priority ∷ extent_numbers extents

-- the numbers of a plan
abbrev pub plan_numbers : Planned → List ℕ
plan_numbers plan = plan.size ∷ plan.block ∷ extent_numbers plan.extents

-- the extents that numbers say, three by three
abbrev pub extents_in : List ℕ → List Extent
extents_in [] = []
extents_in (at ∷ []) = []
extents_in (at ∷ len ∷ []) = []
extents_in (at ∷ len ∷ priority ∷ numbers) = record { at = at; len = len; priority = priority } ∷ extents_in numbers

-- the plan that numbers say
abbrev pub plan_in : List ℕ → Planned
plan_in [] = record { extents = []; size = 0; block = 0 }
plan_in (size ∷ []) = record { extents = []; size = size; block = 0 }
plan_in (size ∷ block ∷ numbers) = record { extents = extents_in numbers; size = size; block = block }
