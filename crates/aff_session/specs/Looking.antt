-- Who looks, as a value.
use Rattle.std.specs.Prelude.{◌≡◌, ℕ, Bool, List, Option, Contains, length}
use Rattle.aff_model.specs.declared.cell.Run.{Run}
use Rattle.aff_model.specs.History.{Part}
use Rattle.aff_model.specs.Plan.{Planned}
use Rattle.aff_claim.specs.Values.{Claiming}
use Rattle.aff_snapshot.specs.Lists.{Beginning}
use Rattle.aff_analyst.specs.Values.{MayHaveGrown}
use Rattle.aff_script.specs.Answered.{Answered}
use Rattle.aff_session.specs.Shown.{IsAnsweredBy}

-- the plan, what a viewer has seen, if there is one, the peek, the claims of the pass and the extents that it asked for, and
-- what the last read gave
pub record Looking (R P : Type 0) : Type 0 where
  pub plan : Planned
  pub viewer : Option (Beginning R)
  pub peek : P
  pub claims : Claiming
  pub raised : List ℕ
  pub bytes : List ℕ
  pub runs : List Run

-- what stays: the plan and the claims; the viewer has seen no less, and no less was asked for
pub record HasLooked {R P : Type 0} (old new : Looking R P) : Type 0 where
  pub plan : new.plan ≡ old.plan
  pub viewer : MayHaveGrown old.viewer new.viewer
  pub claims : new.claims ≡ old.claims
  pub raised : (e : ℕ) → Contains old.raised e → Contains new.raised e

-- the answer to a read of a range, by all of some pieces
pub record IsWholeAnswer (plan : Planned) (tells : Bool) {R : Type 0} (told : R → List ℕ) (pieces : List (Part R)) (at len : ℕ) (a : Answered) : Type 0 where
  pub answer : IsAnsweredBy plan tells told pieces at len a
  pub whole : a.front ≡ length pieces
