-- Sessions of a run, from their making to their answers.
use Rattle.std.specs.Prelude.{◌≡◌, ◌⊎◌, ℕ, ◌<◌, Bool, List, [], ◌∷◌, Option, Some, None, IfSome}
use mathlib.Core.List.{IsPrefix}
use Rattle.aff_model.specs.Content.{Content}
use Rattle.aff_model.specs.History.{Part}
use Rattle.aff_model.specs.Plan.{Planned}
use Rattle.aff_image.specs.Sound.{AreSound}
use Rattle.aff_claim.specs.Values.{Claiming}
use Rattle.aff_snapshot.specs.Lists.{HasEvery, ListName}
use Rattle.aff_session.specs.declared.fault.SessionFault.{SessionFault}
use Rattle.aff_session.specs.declared.fault.SessionFault.TheVariants.{Failed, Damaged, Memory}
use Rattle.aff_session.specs.Shown.{AreAnsweredBy, AreLive}
use Rattle.aff_session.specs.Sittings.{IsSameButFault, Sitting}
use Rattle.aff_run.specs.Ends.{IsDamage}

-- a session that has not begun, of a plan, with a pass at its claims, and with a viewer of its list, if it has one
pub record IsFresh (plan : Planned) (claims : Claiming) (list : ListName) {R P : Type 0} (s : Sitting R P) : Type 0 where
  pub plan_is : s.plan ≡ plan
  pub claims_are : s.claims ≡ claims
  pub list_is : IfSome s.viewer (λ v. v.list ≡ list)
  pub none : s.answers ≡ []
  pub well : s.fault ≡ None

-- a fault has its cause: its peek failed, or a chunk was damaged
abbrev pub IsCaused : Bool → Type 0 → SessionFault → Type 0
IsCaused tells peek Failed = peek
IsCaused tells peek (Damaged chunk recorded found) = IsDamage tells recorded found
IsCaused tells peek Memory = Unit {0}

-- a session of a plan was answered what it asks before `after`, by what its viewer has seen of a list; or it has a fault
pub record HasLived (plan : Planned) (list : ListName) (tells : Bool) {R P : Type 0} (told : R → List ℕ) (faults : P → ℕ) (s : Sitting R P) : Type 0 where
  pub plan_is : s.plan ≡ plan
  pub list_is : IfSome s.viewer (λ v. v.list ≡ list)
  pub live : s.fault ≡ None → AreLive plan tells told s.viewer s.requests s.answers
  pub caused : IfSome s.fault (IsCaused tells (0 < faults s.peek))

-- a session was told a list: what it has seen begins it, where it has every extent of the plan; or there is a fault
pub record HasLearned {R P : Type 0} (pieces : List (Part R)) (old new : Sitting R P) : Type 0 where
  pub same : IsSameButFault old new
  pub fault : (new.fault ≡ old.fault) ⊎ ((old.fault ≡ None) × (new.fault ≡ Some Memory))
  pub learned : new.fault ≡ None → HasEvery old.plan pieces → IfSome old.viewer (λ v. IsPrefix v.pieces pieces)

-- a session may be answered by pieces what is left: they are sound, they begin with what it has seen, and by this it was answered
-- so far; or it has a fault
pub record IsReady (case : Option Content) (tells : Bool) {R P : Type 0} (told : R → List ℕ) (faults : P → ℕ) (pieces : List (Part R)) (s : Sitting R P) : Type 0 where
  pub sound : AreSound case s.plan tells told pieces
  pub seen : s.fault ≡ None → IfSome s.viewer (λ v. IsPrefix v.pieces pieces)
  pub live : s.fault ≡ None → AreLive s.plan tells told s.viewer s.requests s.answers
  pub caused : IfSome s.fault (IsCaused tells (0 < faults s.peek))

-- it was answered all by the pieces; or there is a fault
pub record HasClosed (tells : Bool) {R P : Type 0} (told : R → List ℕ) (faults : P → ℕ) (pieces : List (Part R)) (old new : Sitting R P) : Type 0 where
  pub answers : new.fault ≡ None → AreAnsweredBy old.plan tells told pieces old.requests new.answers
  pub caused : IfSome new.fault (IsCaused tells (0 < faults new.peek))

-- the first of two faults, and the fault of the first session that has one
abbrev pub first_of : Option SessionFault → Option SessionFault → Option SessionFault
first_of None later = later
first_of (Some fault) later = Some fault

abbrev pub first_fault : {R P : Type 0} → List (Sitting R P) → Option SessionFault
first_fault [] = None
first_fault (s ∷ sessions) = first_of s.fault (first_fault sessions)
