-- Which extents a range asks for.
use Rattle.std.specs.Prelude.{◌≡◌, ◌↔◌, ℕ, ◌+◌, ◌<◌, ◌≤◌, List, ◌++◌, Contains, Option, IsSomeAnd, IsTrue, slice_get}
use Rattle.aff_model.specs.declared.extent.Extent.{Extent}
use Rattle.aff_model.specs.History.{Part}
use Rattle.aff_model.specs.Plan.{has_place}
use Rattle.aff_claim.specs.declared.view.PassView.{PassView}
use Rattle.aff_analyst.specs.Seen.{IsOfNone}

-- the extent of a number shares a byte with a range
pub record Shares (extents : List Extent) (at len e : ℕ) : Type 0 where
  pub place : ℕ
  pub from : at ≤ place
  pub to : place < at + len
  pub has : IsSomeAnd (slice_get extents e) (λ x. IsTrue (has_place place x))

-- it does so, and none of some pieces is of it
pub record IsMissed {R : Type 0} (extents : List Extent) (pieces : List (Part R)) (at len e : ℕ) : Type 0 where
  pub shares : Shares extents at len e
  pub unseen : IsOfNone pieces e

-- a pass has asked for exactly such extents more, and is else as it was
pub record HasRaised (Wanted : ℕ → Type 0) (old new : PassView) : Type 0 where
  pub more : List ℕ
  pub view : new ≡ record old { raised = old.raised ++ more }
  pub each : (e : ℕ) → Contains more e ↔ Wanted e
