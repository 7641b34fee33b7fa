-- What becomes of one session.
use Rattle.std.proofs.Common.{◌≡◌, ℕ, ◌<◌, ◌≤◌, List, [], length, refl, sym, ap, subst, ◌∙◌, arith, inl, inr}
use Rattle.std.specs.Prelude.{◌⊎◌, Bool, Option, Some, None, Ok, Err, Result, IfOk, IfSome, MatchOption}
use mathlib.Core.List.{IsPrefix}
use Rattle.aff_model.specs.Causes.{HasCause, Rose}
use Rattle.aff_model.specs.Content.{Content}
use Rattle.aff_model.specs.History.{Part}
use Rattle.aff_model.specs.Plan.{Planned}
use Rattle.aff_image.specs.Sound.{AreSound}
use Rattle.aff_analyst.specs.Values.{MayHaveGrown}
use Rattle.aff_claim.specs.Values.{Claiming}
use Rattle.aff_script.specs.Answered.{Answered}
use Rattle.aff_script.specs.declared.script.Request.{Request}
use Rattle.aff_snapshot.specs.Lists.{Beginning, HasEvery, ListName}
use Rattle.aff_session.specs.declared.fault.SessionFault.{SessionFault}
use Rattle.aff_session.specs.declared.fault.SessionFault.TheVariants.{Failed, Damaged, Memory}
use Rattle.aff_session.specs.Faults.{IsSessionFault}
use Rattle.aff_session.specs.Shown.{AreAnsweredBy, AreLive}
use Rattle.aff_session.specs.Sittings.{HasSat, Sitting}
use Rattle.aff_run.specs.Sessions.{HasClosed, HasLearned, HasLived, IsCaused, IsFresh, IsReady}

-- a viewer that has grown is of the same list
pub grown_list : {R : Type 0} (list : ListName) (old new : Option (Beginning R)) → MayHaveGrown old new → IfSome old (λ v. v.list ≡ list) → IfSome new (λ v. v.list ≡ list)
grown_list list None None grown is = tt
grown_list list None (Some w) grown is = absurd (cc grown)
grown_list list (Some v) None grown is = tt
grown_list list (Some v) (Some w) grown is = grown.list ∙ is

-- the list that was told is the viewer's
pub told_list : {R : Type 0} (o : Option (Beginning R)) (list told : ListName) → told ≡ list → IfSome o (λ v. v.list ≡ list) → IfSome o (λ v. told ≡ v.list)
told_list None list told is of = tt
told_list (Some v) list told is of = is ∙ sym of

pub positive : (before now : ℕ) → Rose before now → 0 < now
positive before now rose = omega (arith, rose)

-- a fault has its cause
caused_by : (plan : Planned) (tells : Bool) {R : Type 0} (pieces : List (Part R)) (before now : ℕ) (f : Option SessionFault) → IfSome f (IsSessionFault plan tells pieces) → (f ≡ Some Failed → Rose before now) → IfSome f (IsCaused tells (0 < now))
caused_by plan tells pieces before now None is rose = tt
caused_by plan tells pieces before now (Some Failed) is rose = positive before now (rose refl)
caused_by plan tells pieces before now (Some Memory) is rose = tt
caused_by plan tells pieces before now (Some (Damaged chunk recorded found)) is rose = record { untold = is.2.damaged.other.untold; differs = is.2.damaged.other.differs }

caused_live : (plan : Planned) (tells : Bool) {R : Type 0} (viewer : Option (Beginning R)) (before now : ℕ) (f : Option SessionFault) → IfSome f (λ f. MatchOption viewer ⊥ (λ v. IsSessionFault plan tells v.pieces f)) → (f ≡ Some Failed → Rose before now)
    → IfSome f (IsCaused tells (0 < now))
caused_live plan tells viewer before now None is rose = tt
caused_live plan tells None before now (Some f) is rose = absurd is
caused_live plan tells (Some v) before now (Some f) is rose = caused_by plan tells v.pieces before now (Some f) is rose

module _ {R P : Type 0} (tells : Bool) (told : R → List ℕ) (faults : P → ℕ) where
  -- a session that had not begun has lived
  pub lived : (plan : Planned) (claims : Claiming) (list : ListName) (old new : Sitting R P) → IsFresh plan claims list old → HasSat old new
      → (new.fault ≡ None → AreLive old.plan tells told new.viewer old.requests new.answers) → IfSome new.fault (λ f. MatchOption new.viewer ⊥ (λ v. IsSessionFault old.plan tells v.pieces f))
      → HasCause (faults old.peek) (faults new.peek) (new.fault ≡ Some Failed) → HasLived plan list tells told faults new × (new.requests ≡ old.requests)
  lived plan claims list old new fresh sat answers fault cause = (
    record {
      plan_is = sat.plan ∙ fresh.plan_is;
      list_is = grown_list list old.viewer new.viewer sat.viewer fresh.list_is;
      live = λ well.
          subst (λ (p : Planned). AreLive p tells told new.viewer new.requests new.answers) fresh.plan_is
          (subst (λ (asks : List Request). AreLive old.plan tells told new.viewer asks new.answers) (sym sat.requests) (answers well));
      caused = caused_live old.plan tells new.viewer (faults old.peek) (faults new.peek) new.fault fault cause.rose;
    },
    sat.requests,
  )

  well_before : (old new : Option SessionFault) → (new ≡ old) ⊎ ((old ≡ None) × (new ≡ Some Memory)) → new ≡ None → old ≡ None
  well_before old new (inl same) well = sym same ∙ well
  well_before old new (inr both) well = both.0

  caused_before : (peek : Type 0) (old new : Option SessionFault) → (new ≡ old) ⊎ ((old ≡ None) × (new ≡ Some Memory)) → IfSome old (IsCaused tells peek) → IfSome new (IsCaused tells peek)
  caused_before peek old new (inl same) is = subst (λ (f : Option SessionFault). IfSome f (IsCaused tells peek)) (sym same) is
  caused_before peek old new (inr both) is = subst (λ (f : Option SessionFault). IfSome f (IsCaused tells peek)) (sym both.1) tt

  -- a session that was told the whole list may be answered by it
  pub ready : (case : Option Content) (plan : Planned) (list : ListName) (pieces : List (Part R)) (old new : Sitting R P) → HasLived plan list tells told faults old → HasLearned pieces old new
      → HasEvery plan pieces → AreSound case plan tells told pieces → IsReady case tells told faults pieces new
  ready case plan list pieces old new life learned every sound =
      let planned : new.plan ≡ plan = ap (λ (s : Sitting R P). s.plan) learned.same ∙ life.plan_is in
      record {
        sound = subst (λ (p : Planned). AreSound case p tells told pieces) (sym planned) sound;
        seen = λ well. subst (λ (v : Option (Beginning R)). IfSome v (λ v. IsPrefix v.pieces pieces)) (sym (ap (λ (s : Sitting R P). s.viewer) learned.same))
            (learned.learned well (subst (λ (p : Planned). HasEvery p pieces) (sym life.plan_is) every));
        live = λ well. subst (λ (p : Planned). AreLive p tells told new.viewer new.requests new.answers) (sym planned)
            (subst (λ (s : Sitting R P). AreLive plan tells told s.viewer s.requests s.answers) (sym learned.same) (life.live (well_before old.fault new.fault learned.fault well)));
        caused = subst (λ (p : P). IfSome new.fault (IsCaused tells (0 < faults p))) (sym (ap (λ (s : Sitting R P). s.peek) learned.same))
            (caused_before (0 < faults old.peek) old.fault new.fault learned.fault life.caused);
      }

  caused_closed : (pieces : List (Part R)) (was : Option SessionFault) (old new : Sitting R P) → old.fault ≡ was → ((f : SessionFault) → old.fault ≡ Some f → new ≡ old)
      → (old.fault ≡ None → IfSome new.fault (IsSessionFault old.plan tells pieces)) → ((old.fault ≡ None) × (new.fault ≡ Some Failed) → Rose (faults old.peek) (faults new.peek))
      → IfSome old.fault (IsCaused tells (0 < faults old.peek)) → IfSome new.fault (IsCaused tells (0 < faults new.peek))
  caused_closed pieces (Some f) old new is earlier fault rose before = subst (λ (s : Sitting R P). IfSome s.fault (IsCaused tells (0 < faults s.peek))) (sym (earlier f is)) before
  caused_closed pieces None old new is earlier fault rose before = caused_by old.plan tells pieces (faults old.peek) (faults new.peek) new.fault (fault is) (λ failed. rose (is, failed))

  -- and was answered by it
  pub closed : (case : Option Content) (pieces : List (Part R)) (old new : Sitting R P) → IsReady case tells told faults pieces old → ((f : SessionFault) → old.fault ≡ Some f → new ≡ old)
      → (new.fault ≡ None → AreAnsweredBy old.plan tells told pieces old.requests new.answers)
      → (old.fault ≡ None → IfSome new.fault (IsSessionFault old.plan tells pieces)) → HasCause (faults old.peek) (faults new.peek) ((old.fault ≡ None) × (new.fault ≡ Some Failed))
      → HasClosed tells told faults pieces old new
  closed case pieces old new before earlier answers fault cause = record {
    answers = answers;
    caused = caused_closed pieces old.fault old new refl earlier fault cause.rose before.caused;
  }

-- a session that was made has not begun
pub fresh_made : {R P E : Type 0} (r : Result (Sitting R P) E) (plan : Planned) (claims had : Claiming) (raised : List ℕ) (viewer : Option (Beginning R)) (peek : P) (requests : List Request)
    → IfOk r (λ s. s ≡ record { plan = plan; viewer = viewer; peek = peek; claims = had; raised = raised; requests = requests; answers = []; fault = None }) → had ≡ claims
    → IfOk r (λ s. (list : ListName) → IfSome viewer (λ v. v.list ≡ list) → IsFresh plan claims list s)
fresh_made (Err e) plan claims had raised viewer peek requests is same = tt
fresh_made {R} {P} (Ok s) plan claims had raised viewer peek requests is same = λ list of. record {
  plan_is = ap (λ (s : Sitting R P). s.plan) is;
  claims_are = ap (λ (s : Sitting R P). s.claims) is ∙ same;
  list_is = subst (λ (v : Option (Beginning R)). IfSome v (λ v. v.list ≡ list)) (sym (ap (λ (s : Sitting R P). s.viewer) is)) of;
  none = ap (λ (s : Sitting R P). s.answers) is;
  well = ap (λ (s : Sitting R P). s.fault) is;
}
