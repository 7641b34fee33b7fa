-- Examiners with those who show them the pieces, from the making of a run to its end.
use Rattle.std.specs.Prelude.{◌≡◌, ◌⊎◌, ℕ, ◌<◌, ◌≤◌, Bool, List, [], ◌∷◌, length, map, slice_index_or, Option, Some, None, IfSome}
use mathlib.Core.List.{IsPrefix}
use Rattle.std.specs.declared.alloc.Global.{Global}
use Rattle.std.specs.declared.dyn_box.DynBox.{DynBox}
use Rattle.aff_model.specs.Content.{Content}
use Rattle.aff_model.specs.History.{Part, Published}
use Rattle.aff_model.specs.Plan.{Planned}
use Rattle.aff_image.specs.Sound.{AreSound}
use Rattle.aff_examine.specs.declared.error.FollowError.{FollowError}
use Rattle.aff_examine.specs.declared.error.FollowError.TheVariants.{Failed, Damaged, Memory}
use Rattle.aff_examine.specs.declared.examination.Examination.{Examination}
use Rattle.aff_examine.specs.Folds.{HasSameRule, Rule}
use Rattle.aff_examine.specs.Following.{Following, seen_by, shown_by}
use Rattle.aff_examine.specs.Histories.{HasExamined}
use Rattle.aff_examine.specs.Sights.{FoldsOn, IsFold}
use Rattle.aff_snapshot.specs.Lists.{HasEvery, ListName}
use Rattle.aff_run.specs.Ends.{IsDamage}

-- a follower that has shown nothing, of a plan, with a viewer of its list, if it has one
pub record IsNew (plan : Planned) (list : ListName) {R P : Type 0} (f : Following R P) : Type 0 where
  pub plan_is : f.plan ≡ plan
  pub list_is : IfSome f.viewer (λ v. v.list ≡ list)
  pub none : f.shown ≡ 0

-- a fault has its cause: its peek failed, or a chunk was damaged
abbrev pub IsFollowCaused : Bool → Type 0 → FollowError → Type 0
IsFollowCaused tells peek Failed = peek
IsFollowCaused tells peek (Damaged chunk recorded found) = IsDamage tells recorded found
IsFollowCaused tells peek Memory = Unit {0}

-- the first of two faults
abbrev pub first_of : Option FollowError → Option FollowError → Option FollowError
first_of None later = later
first_of (Some fault) later = Some fault

module _ {Y Z R P X : Type 0} {G : X → Type 0} where
  -- an examiner with a new follower, and no fault
  pub record IsUnshown (plan : Planned) (list : ListName) (x : Examination Y Z R P X G) : Type 0 where
    pub follower : IsNew plan list x.follower
    pub well : x.fault ≡ None

  -- an examiner was shown what its follower saw: by its rule, which is that of the examiner as it came in, this makes its state of
  -- the one in which that came in
  pub record HasWatched (plan : Planned) (list : ListName) (tells : Bool) (told : R → List ℕ) (faults : P → ℕ) (rule : DynBox X Global G → Rule) (text : DynBox X Global G → List ℕ → List ℕ) (state : DynBox X Global G → List ℕ) (from : DynBox X Global G)
      (x : Examination Y Z R P X G) : Type 0 where
    pub plan_is : x.follower.plan ≡ plan
    pub list_is : IfSome x.follower.viewer (λ v. v.list ≡ list)
    pub inside : x.follower.shown ≤ length (seen_by x.follower)
    pub kept : HasSameRule rule text from x.examiner
    pub fold : IsFold plan tells told (rule from) 0 (shown_by x.follower) (state from) (state x.examiner)
    pub caused : IfSome x.fault (IsFollowCaused tells (0 < faults x.follower.peek))

  -- an examination may go on: its follower is of a plan and a list, and a fault has its cause
  pub record CanGoOn (plan : Planned) (list : ListName) (tells : Bool) (faults : P → ℕ) (x : Examination Y Z R P X G) : Type 0 where
    pub plan_is : x.follower.plan ≡ plan
    pub list_is : IfSome x.follower.viewer (λ v. v.list ≡ list)
    pub inside : x.follower.shown ≤ length (seen_by x.follower)
    pub caused : IfSome x.fault (IsFollowCaused tells (0 < faults x.follower.peek))

  -- a follower was told a list: what it has seen begins it, where it has every extent of the plan; or there is a fault
  pub record HasBeenTold (pieces : List (Part R)) (old new : Examination Y Z R P X G) : Type 0 where
    pub same : (new.follower ≡ old.follower) × (new.examiner ≡ old.examiner)
    pub fault : (new.fault ≡ old.fault) ⊎ ((old.fault ≡ None) × (new.fault ≡ Some Memory))
    pub learned : new.fault ≡ None → HasEvery old.follower.plan pieces → IfSome old.follower.viewer (λ v. IsPrefix v.pieces pieces)

  -- an examiner may be shown the rest of pieces: they are sound, and they begin with what its follower has seen; or it has a fault
  pub record CanBeShown (case : Option Content) (tells : Bool) (told : R → List ℕ) (faults : P → ℕ) (pieces : List (Part R)) (x : Examination Y Z R P X G) : Type 0 where
    pub sound : AreSound case x.follower.plan tells told pieces
    pub inside : x.follower.shown ≤ length (seen_by x.follower)
    pub seen : x.fault ≡ None → IfSome x.follower.viewer (λ v. IsPrefix v.pieces pieces)
    pub caused : IfSome x.fault (IsFollowCaused tells (0 < faults x.follower.peek))

  -- it was shown them: its state goes on by them from what it had been shown; or there is a fault
  pub record HasBeenShown (tells : Bool) (told : R → List ℕ) (faults : P → ℕ) (rule : DynBox X Global G → Rule) (text : DynBox X Global G → List ℕ → List ℕ) (state : DynBox X Global G → List ℕ) (pieces : List (Part R))
      (old new : Examination Y Z R P X G) : Type 0 where
    pub kept : HasSameRule rule text old.examiner new.examiner
    pub fold : new.fault ≡ None → FoldsOn old.follower.plan tells told (rule old.examiner) (shown_by old.follower) pieces (state old.examiner) (state new.examiner)
    pub caused : IfSome new.fault (IsFollowCaused tells (0 < faults new.follower.peek))

  -- the first fault of examinations
  abbrev pub first_fault : List (Examination Y Z R P X G) → Option FollowError
  first_fault [] = None
  first_fault (x ∷ examinations) = first_of x.fault (first_fault examinations)

  -- Examiners went on to the end of a history: where the state of one was the fold over what it had been shown, it is that over the
  -- history now, from the same state. The findings are the texts of their states, in order.
  pub record HaveGoneOn (case : Option Content) (tells : Bool) (told : R → List ℕ) (plan : Planned) (history : List Published) (rule : DynBox X Global G → Rule) (text : DynBox X Global G → List ℕ → List ℕ) (state : DynBox X Global G → List ℕ)
      (olds : List (Examination Y Z R P X G)) (news : List (DynBox X Global G)) (findings : List (List ℕ)) : Type 0 where
    pub each : (k : ℕ) (x : Examination Y Z R P X G) (e : DynBox X Global G) (from : List ℕ) → k < length olds
        → IsFold plan tells told (rule (slice_index_or olds k x).examiner) 0 (shown_by (slice_index_or olds k x).follower) from (state (slice_index_or olds k x).examiner)
        → HasExamined case tells plan history (rule (slice_index_or olds k x).examiner) from (state (slice_index_or news k e))
    pub findings_are : findings ≡ map (λ e. text e (state e)) news
