-- Sessions as values.
use Rattle.std.specs.Prelude.{◌≡◌, ℕ, List, Option, Contains}
use Rattle.aff_model.specs.Plan.{Planned}
use Rattle.aff_claim.specs.Values.{Claiming}
use Rattle.aff_snapshot.specs.Lists.{Beginning}
use Rattle.aff_analyst.specs.Values.{MayHaveGrown}
use Rattle.aff_script.specs.Answered.{Answered}
use Rattle.aff_script.specs.declared.script.Request.{Request}
use Rattle.aff_session.specs.declared.fault.SessionFault.{SessionFault}

-- who looks on: the plan, what its viewer has seen, if it has one, its peek, the claims of its pass and the extents that it asked
-- for, what it asks, what it was answered, and its fault
pub record Sitting (R P : Type 0) : Type 0 where
  pub plan : Planned
  pub viewer : Option (Beginning R)
  pub peek : P
  pub claims : Claiming
  pub raised : List ℕ
  pub requests : List Request
  pub answers : List Answered
  pub fault : Option SessionFault

-- what stays of a session: its plan, its claims and its requests; its viewer has seen no less, and it has asked for no less
pub record HasSat {R P : Type 0} (old new : Sitting R P) : Type 0 where
  pub plan : new.plan ≡ old.plan
  pub viewer : MayHaveGrown old.viewer new.viewer
  pub claims : new.claims ≡ old.claims
  pub raised : (e : ℕ) → Contains old.raised e → Contains new.raised e
  pub requests : new.requests ≡ old.requests

-- a session is as it was, but for its fault
abbrev pub IsSameButFault : {R P : Type 0} → Sitting R P → Sitting R P → Type 0
IsSameButFault old new = new ≡ record old { fault = new.fault }
