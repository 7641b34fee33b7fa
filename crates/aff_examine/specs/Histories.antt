-- What an examiner is shown of a history.
use Rattle.std.specs.Prelude.{◌≡◌, ℕ, suc, ◌+◌, ◌<◌, Bool, List, [], ◌∷◌, length, Option, IfSome, IsTrue, MatchOption, slice_get, slice_index}
use Rattle.aff_model.specs.declared.extent.Extent.{Extent}
use Rattle.aff_model.specs.Cells.{is_bad_at}
use Rattle.aff_model.specs.Content.{Content}
use Rattle.aff_model.specs.History.{Published}
use Rattle.aff_model.specs.Plan.{Planned}
use Rattle.aff_examine.specs.Folds.{Sight, Rule, fold_of}
use Rattle.aff_examine.specs.Sights.{shown_as, shown_bytes}

-- what is shown of a publication of an extent, the `front`th of its history: as many bytes as the extent has, with 0 where its
-- sector could not be read; the device's bytes else, where the folder tells and what the devices hold is told
pub record IsShown (case : Option Content) (tells : Bool) (front : ℕ) (e : Extent) (p : Published) (s : Sight) : Type 0 where
  pub piece : s.piece ≡ shown_as e front p
  pub len : length s.bytes ≡ e.len
  pub zero : (k : ℕ) → k < e.len → IsTrue (is_bad_at e p (e.at + k)) → slice_index s.bytes k ≡ 0
  pub told : IsTrue tells → IfSome case (λ c. s.bytes ≡ shown_bytes c e p)

-- what is shown of a history, or of its rest behind `before` publications: each publication once, in order
abbrev pub AreShown : Option Content → Bool → Planned → ℕ → List Published → List Sight → Type 0
AreShown case tells plan before [] [] = Unit {0}
AreShown case tells plan before [] (s ∷ sights) = ⊥
AreShown case tells plan before (p ∷ history) [] = ⊥
AreShown case tells plan before (p ∷ history) (s ∷ sights) = MatchOption (slice_get plan.extents p.extent) ⊥ (λ e. IsShown case tells (suc before) e p s) × AreShown case tells plan (suc before) history sights

-- an examiner with a rule went through a history: its state is the fold of the rule over it, from the state in which it came in
pub record HasExamined (case : Option Content) (tells : Bool) (plan : Planned) (history : List Published) (rule : Rule) (from state : List ℕ) : Type 0 where
  pub sights : List Sight
  pub are : AreShown case tells plan 0 history sights
  pub folded : state ≡ fold_of rule from sights
