-- What the one history is made by: the states of the core, and which events lead from one to the next.
use Rattle.std.specs.Prelude.{◌≡◌, ℕ, ◌+◌, ◌/◌, ◌<◌, ◌≤◌, Bool, true, false, Option, None, Some, IsSomeAnd, List, [], ◌∷◌, ◌++◌, length, map, All, Contains, replicate, slice_get, slice_set, take}
use Rattle.std.specs.List.Sorted.{IsStrictlyIncreasing}
use Rattle.aff_model.specs.declared.limits.TheConstants.{SECTOR}
use Rattle.aff_core.specs.declared.event.Event.{Event}
use Rattle.aff_core.specs.declared.event.Event.TheVariants.{Claim, Publish, Read, Raise, Finish}
use Rattle.aff_core.specs.declared.event.CoreError.{CoreError}
use Rattle.aff_core.specs.declared.event.CoreError.TheVariants.{Refused, Memory}
use Rattle.aff_model.specs.declared.extent.Extent.{Extent}
use Rattle.aff_model.specs.History.{Published}
use Rattle.aff_model.specs.Legal.{IsComplete}
use Rattle.aff_model.specs.Plan.{Planned, chunk_count}

-- a state of the core: what the run is about (its plan, how many passes and sessions), a claimant or none for each extent,
-- the history, and whether Finish has come
pub record CoreState : Type 0 where
  pub plan : Planned
  pub passes : ℕ
  pub sessions : ℕ
  pub claims : List (Option ℕ)
  pub history : List Published
  pub finished : Bool

-- the first state: nothing is claimed, and nothing is published
abbrev pub start : Planned → ℕ → ℕ → CoreState
start plan passes sessions = record {
  plan = plan;
  passes = passes;
  sessions = sessions;
  claims = replicate (length plan.extents) None;
  history = [];
  finished = false;
}

-- the numbers of the published extents, in order
abbrev pub extents_out : List Published → List ℕ
extents_out history = map (λ p. p.extent) history

-- a publication has the shape of one of an extent: its unreadable sectors rise inside it, and it has one place a chunk
pub record IsShaped (e : Extent) (p : Published) : Type 0 where
  pub rising : IsStrictlyIncreasing p.bad
  pub inside : All (λ s. s < e.len / SECTOR) p.bad
  pub places : length p.places ≡ chunk_count e.len

-- when an extent may be claimed
pub record MayClaim (c : CoreState) (claimant extent : ℕ) : Type 0 where
  pub going : c.finished ≡ false
  pub pass : claimant < c.passes
  pub planned : extent < length c.plan.extents
  pub free : slice_get c.claims extent ≡ Some None

-- when a publication may join the history
pub record MayPublish (c : CoreState) (p : Published) : Type 0 where
  pub going : c.finished ≡ false
  pub claimed : slice_get c.claims p.extent ≡ Some (Some p.claimant)
  pub unpublished : ¬ (Contains (extents_out c.history) p.extent)
  pub shaped : IsSomeAnd (slice_get c.plan.extents p.extent) (λ e. IsShaped e p)

-- when a session may read a range at a front, a number of publications
pub record MayRead (c : CoreState) (session at len front : ℕ) : Type 0 where
  pub seated : session < c.sessions
  pub range : at + len ≤ c.plan.size
  pub present : front ≡ length c.history

-- when a session may raise an extent
pub record MayRaise (c : CoreState) (session extent : ℕ) : Type 0 where
  pub going : c.finished ≡ false
  pub seated : session < c.sessions
  pub planned : extent < length c.plan.extents

-- when Finish may come
pub record MayFinish (c : CoreState) : Type 0 where
  pub going : c.finished ≡ false
  pub complete : IsComplete c.plan.extents c.history

-- an event leads from a state to the next: a claim names the claimant, a publication joins the end of the history, a read
-- and a raise change nothing, and Finish is marked
abbrev pub IsStep : CoreState → Event → CoreState → Type 0
IsStep c (Claim claimant extent) d = MayClaim c claimant extent × (d ≡ record c { claims = slice_set c.claims extent (Some claimant) })
IsStep c (Publish p) d = MayPublish c p × (d ≡ record c { history = c.history ++ p ∷ [] })
IsStep c (Read session at len front) d = MayRead c session at len front × (d ≡ c)
IsStep c (Raise session extent) d = MayRaise c session extent × (d ≡ c)
IsStep c Finish d = MayFinish c × (d ≡ record c { finished = true })

-- no event of this form is possible
abbrev pub HasNoStep : CoreState → Event → Type 0
HasNoStep c event = (d : CoreState) → ¬ (IsStep c event d)

-- events lead from a state to another, one step each
abbrev pub IsRun : CoreState → List Event → CoreState → Type 0
IsRun c [] d = d ≡ c
IsRun c (event ∷ events) d = (next : CoreState) × IsStep c event next × IsRun next events d

-- the event at a place is the first that is no step
pub record IsFirstRefused (c : CoreState) (events : List Event) (place : ℕ) : Type 0 where
  pub state : CoreState
  pub event : Event
  pub before : IsRun c (take place events) state
  pub there : slice_get events place ≡ Some event
  pub refused : HasNoStep state event

-- what an error says of a list of events: the place of the first that is no step, and nothing for want of memory
abbrev pub IsRefusal : CoreState → List Event → CoreError → Type 0
IsRefusal c events (Refused place) = IsFirstRefused c events place
IsRefusal c events Memory = Unit {0}
