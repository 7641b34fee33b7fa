-- What becomes of one examiner.
use Rattle.std.proofs.Common.{◌≡◌, ℕ, ◌<◌, ◌≤◌, false, List, [], length, take, refl, sym, ap, subst, ◌∙◌, arith, inl, inr}
use Rattle.std.specs.Prelude.{◌⊎◌, Bool, Option, Some, None, Ok, Err, Result, IfOk, IfSome}
use Rattle.std.specs.declared.alloc.Global.{Global}
use Rattle.std.specs.declared.dyn_box.DynBox.{DynBox}
use mathlib.Core.List.{IsPrefix}
use Rattle.aff_model.specs.Causes.{HasCause, Rose}
use Rattle.aff_model.specs.Content.{Content}
use Rattle.aff_model.specs.History.{Part}
use Rattle.aff_model.specs.Plan.{Planned}
use Rattle.aff_image.specs.Sound.{AreSound}
use Rattle.aff_examine.specs.declared.error.FollowError.{FollowError}
use Rattle.aff_examine.specs.declared.error.FollowError.TheVariants.{Failed, Damaged, Memory}
use Rattle.aff_examine.specs.declared.examination.Examination.{Examination}
use Rattle.aff_examine.specs.Faults.{IsFollowFault, IsPieceFault}
use Rattle.aff_examine.specs.Folds.{HasSameRule, Rule}
use Rattle.aff_examine.specs.Following.{Following, HasGoneOn, seen_by, shown_by}
use Rattle.aff_examine.specs.Sights.{FoldsOn, IsFold}
use Rattle.aff_snapshot.specs.Lists.{Beginning, HasEvery, ListName}
use Rattle.aff_run.specs.Examinations.{CanBeShown, CanGoOn, HasBeenShown, HasBeenTold, HasWatched, IsFollowCaused, IsNew, IsUnshown}
use Rattle.aff_run.proofs.Lives.{grown_list, positive}

-- a fault has its cause
piece_caused : (plan : Planned) (tells : Bool) {R : Type 0} (p : Part R) (before now : ℕ) (f : FollowError) → IsPieceFault plan tells p f → (f ≡ Failed → Rose before now) → IsFollowCaused tells (0 < now) f
piece_caused plan tells p before now Failed is rose = positive before now (rose refl)
piece_caused plan tells p before now Memory is rose = tt
piece_caused plan tells p before now (Damaged chunk recorded found) is rose = record { untold = is.2.damaged.other.untold; differs = is.2.damaged.other.differs }

caused_by : (plan : Planned) (tells : Bool) {R : Type 0} (pieces : List (Part R)) (shown before now : ℕ) (f : Option FollowError) → IfSome f (IsFollowFault plan tells pieces shown) → (f ≡ Some Failed → Rose before now)
    → IfSome f (IsFollowCaused tells (0 < now))
caused_by plan tells pieces shown before now None is rose = tt
caused_by plan tells pieces shown before now (Some f) is rose = piece_caused plan tells is.0 before now f is.2 (λ failed. rose (ap Some failed))

-- a follower that was made is new
pub new_made : {R P E : Type 0} (r : Result (Following R P) E) (plan : Planned) (viewer : Option (Beginning R)) (peek : P) → IfOk r (λ f. f ≡ record { plan = plan; viewer = viewer; peek = peek; shown = 0; idle = 0; alone = false })
    → IfOk r (λ f. (list : ListName) → IfSome viewer (λ v. v.list ≡ list) → IsNew plan list f)
new_made (Err e) plan viewer peek is = tt
new_made {R} {P} (Ok f) plan viewer peek is = λ list of. record {
  plan_is = ap (λ (f : Following R P). f.plan) is;
  list_is = subst (λ (v : Option (Beginning R)). IfSome v (λ v. v.list ≡ list)) (sym (ap (λ (f : Following R P). f.viewer) is)) of;
  none = ap (λ (f : Following R P). f.shown) is;
}

-- nothing was shown
fold_unshown : (tells : Bool) {R P : Type 0} (told : R → List ℕ) (plan : Planned) (f : Following R P) → f.shown ≡ 0 → (r : Rule) (s : List ℕ) → IsFold plan tells told r 0 (shown_by f) s s
fold_unshown tells told plan f none r s = subst (λ n. IsFold plan tells told r 0 (take n (seen_by f)) s s) (sym none) (record { sights = []; are = tt; folded = refl })

-- what was told of a fault before holds of it where a list was told
caused_before : (tells : Bool) (peek : Type 0) (old new : Option FollowError) → (new ≡ old) ⊎ ((old ≡ None) × (new ≡ Some Memory)) → IfSome old (IsFollowCaused tells peek) → IfSome new (IsFollowCaused tells peek)
caused_before tells peek old new (inl same) is = subst (λ (f : Option FollowError). IfSome f (IsFollowCaused tells peek)) (sym same) is
caused_before tells peek old new (inr both) is = subst (λ (f : Option FollowError). IfSome f (IsFollowCaused tells peek)) (sym both.1) tt

-- a follower was told the pieces of a list
pub told_as : {Y Z R P X : Type 0} {G : X → Type 0} (pieces given : List (Part R)) (old new : Examination Y Z R P X G) → given ≡ pieces → (new.follower ≡ old.follower) × (new.examiner ≡ old.examiner) → (new.fault ≡ old.fault) ⊎ ((old.fault ≡ None) × (new.fault ≡ Some Memory))
    → (new.fault ≡ None → HasEvery old.follower.plan given → IfSome old.follower.viewer (λ v. IsPrefix v.pieces given)) → HasBeenTold pieces old new
told_as {Y} {Z} {R} pieces given old new is same fault learned = record {
  same = same;
  fault = fault;
  learned = subst (λ (ps : List (Part R)). new.fault ≡ None → HasEvery old.follower.plan ps → IfSome old.follower.viewer (λ v. IsPrefix v.pieces ps)) is learned;
}

module _ {Y Z R P X : Type 0} {G : X → Type 0} (tells : Bool) (told : R → List ℕ) (faults : P → ℕ) (rule : DynBox X Global G → Rule) (text : DynBox X Global G → List ℕ → List ℕ) (state : DynBox X Global G → List ℕ) where
  -- an examiner that was shown nothing was shown what its follower saw
  pub watched : (plan : Planned) (list : ListName) (old new : Examination Y Z R P X G) → IsUnshown plan list old → HasGoneOn old.follower new.follower → new.follower.shown ≤ length (seen_by new.follower)
      → FoldsOn old.follower.plan tells told (rule old.examiner) (shown_by old.follower) (shown_by new.follower) (state old.examiner) (state new.examiner) → HasSameRule rule text old.examiner new.examiner
      → (old.fault ≡ None → IfSome new.fault (IsFollowFault old.follower.plan tells (seen_by new.follower) new.follower.shown))
      → HasCause (faults old.follower.peek) (faults new.follower.peek) ((old.fault ≡ None) × (new.fault ≡ Some Failed)) → HasWatched plan list tells told faults rule text state old.examiner new
  watched plan list old new unshown on inside fold kept fault cause = record {
    plan_is = on.plan ∙ unshown.follower.plan_is;
    list_is = grown_list list old.follower.viewer new.follower.viewer on.viewer unshown.follower.list_is;
    inside = inside;
    kept = kept;
    fold = subst (λ (p : Planned). IsFold p tells told (rule old.examiner) 0 (shown_by new.follower) (state old.examiner) (state new.examiner)) unshown.follower.plan_is
        (fold (state old.examiner) (fold_unshown tells told old.follower.plan old.follower unshown.follower.none (rule old.examiner) (state old.examiner)));
    caused = caused_by old.follower.plan tells (seen_by new.follower) new.follower.shown (faults old.follower.peek) (faults new.follower.peek) new.fault (fault unshown.well) (λ failed. cause.rose (unshown.well, failed));
  }

  -- and may go on
  pub goes_on : (plan : Planned) (list : ListName) (from : DynBox X Global G) (x : Examination Y Z R P X G) → HasWatched plan list tells told faults rule text state from x → CanGoOn plan list tells faults x
  goes_on plan list from x is = record { plan_is = is.plan_is; list_is = is.list_is; inside = is.inside; caused = is.caused }

  -- one whose follower was told a list stands where it stood
  pub inside_told : (plan : Planned) (list : ListName) (pieces : List (Part R)) (old new : Examination Y Z R P X G) → CanGoOn plan list tells faults old → HasBeenTold pieces old new → new.follower.shown ≤ length (seen_by new.follower)
  inside_told plan list pieces old new may learned = subst (λ (f : Following R P). f.shown ≤ length (seen_by f)) (sym learned.same.0) may.inside

  -- and may be shown the whole list
  pub may_be_shown : (case : Option Content) (plan : Planned) (list : ListName) (pieces : List (Part R)) (old new : Examination Y Z R P X G) → CanGoOn plan list tells faults old → HasBeenTold pieces old new
      → HasEvery plan pieces → AreSound case plan tells told pieces → CanBeShown case tells told faults pieces new
  may_be_shown case plan list pieces old new may learned every sound =
      let planned : new.follower.plan ≡ plan = ap (λ (f : Following R P). f.plan) learned.same.0 ∙ may.plan_is in
      record {
        sound = subst (λ (p : Planned). AreSound case p tells told pieces) (sym planned) sound;
        inside = inside_told plan list pieces old new may learned;
        seen = λ well. subst (λ (v : Option (Beginning R)). IfSome v (λ v. IsPrefix v.pieces pieces)) (sym (ap (λ (f : Following R P). f.viewer) learned.same.0))
            (learned.learned well (subst (λ (p : Planned). HasEvery p pieces) (sym may.plan_is) every));
        caused = subst (λ (p : P). IfSome new.fault (IsFollowCaused tells (0 < faults p))) (sym (ap (λ (f : Following R P). f.peek) learned.same.0))
            (caused_before tells (0 < faults old.follower.peek) old.fault new.fault learned.fault may.caused);
      }

  caused_shown : (pieces : List (Part R)) (was : Option FollowError) (old new : Examination Y Z R P X G) → old.fault ≡ was → ((f : FollowError) → old.fault ≡ Some f → new ≡ old)
      → (old.fault ≡ None → IfSome new.fault (IsFollowFault old.follower.plan tells pieces new.follower.shown)) → ((old.fault ≡ None) × (new.fault ≡ Some Failed) → Rose (faults old.follower.peek) (faults new.follower.peek))
      → IfSome old.fault (IsFollowCaused tells (0 < faults old.follower.peek)) → IfSome new.fault (IsFollowCaused tells (0 < faults new.follower.peek))
  caused_shown pieces (Some f) old new is earlier fault rose before = subst (λ (x : Examination Y Z R P X G). IfSome x.fault (IsFollowCaused tells (0 < faults x.follower.peek))) (sym (earlier f is)) before
  caused_shown pieces None old new is earlier fault rose before =
      caused_by old.follower.plan tells pieces new.follower.shown (faults old.follower.peek) (faults new.follower.peek) new.fault (fault is) (λ failed. rose (is, failed))

  -- and was shown it
  pub shown : (case : Option Content) (pieces : List (Part R)) (old new : Examination Y Z R P X G) → CanBeShown case tells told faults pieces old → ((f : FollowError) → old.fault ≡ Some f → new ≡ old)
      → (new.fault ≡ None → FoldsOn old.follower.plan tells told (rule old.examiner) (shown_by old.follower) pieces (state old.examiner) (state new.examiner)) → HasSameRule rule text old.examiner new.examiner
      → (old.fault ≡ None → IfSome new.fault (IsFollowFault old.follower.plan tells pieces new.follower.shown)) → HasCause (faults old.follower.peek) (faults new.follower.peek) ((old.fault ≡ None) × (new.fault ≡ Some Failed))
      → HasBeenShown tells told faults rule text state pieces old new
  shown case pieces old new before earlier fold kept fault cause = record {
    kept = kept;
    fold = fold;
    caused = caused_shown pieces old.fault old new refl earlier fault cause.rose before.caused;
  }
