-- Sound pieces of a plan.
use Rattle.std.specs.Prelude.{ℕ, Bool, List, Option, MatchOption, slice_get}
use Rattle.aff_model.specs.Content.{Content}
use Rattle.aff_model.specs.History.{Part}
use Rattle.aff_model.specs.Plan.{Planned}
use Rattle.aff_image.specs.Sound.{IsSound}
pub use Rattle.aff_image.specs.Sound.{AreSound}

-- a piece is of an extent of the plan, and is sound
abbrev pub IsSoundIn : Option Content → Planned → Bool → {R : Type 0} → (R → List ℕ) → Part R → Type 0
IsSoundIn case plan tells told p = MatchOption (slice_get plan.extents p.extent) ⊥ (λ e. IsSound case plan.block e tells told p)
