-- Analysts as values.
use Rattle.std.specs.Prelude.{◌≡◌, ◌≤◌, ℕ, Bool, List, Option, Some, MatchOption, IfSome, IfNone, IsNone}
use mathlib.Core.List.{IsPrefix}
use Rattle.aff_model.specs.Content.{Content}
use Rattle.aff_model.specs.History.{Part}
use Rattle.aff_model.specs.Plan.{Planned}
use Rattle.aff_image.specs.Sound.{AreSound}
use Rattle.aff_snapshot.specs.Lists.{Beginning}

-- what an analyst reads of and with: a plan, what its viewer has seen, if it has one, and its peek
pub record Analysis (R P : Type 0) : Type 0 where
  pub plan : Planned
  pub viewer : Option (Beginning R)
  pub peek : P

-- a viewer has the same list, and what it had begins what it has
pub record HasGrown {R : Type 0} (old new : Beginning R) : Type 0 where
  pub list : new.list ≡ old.list
  pub longer : IsPrefix old.pieces new.pieces

-- so has the viewer, if there is one
abbrev pub MayHaveGrown : {R : Type 0} → Option (Beginning R) → Option (Beginning R) → Type 0
MayHaveGrown old new = MatchOption old (IsNone new) (λ v. MatchOption new ⊥ (λ w. HasGrown v w))
