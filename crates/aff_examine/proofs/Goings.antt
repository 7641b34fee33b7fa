-- How a follower goes on.
use Rattle.std.proofs.Common.{◌≡◌, ℕ, ◌≤◌, Bool, false, inl, Option, None, Some, IfSome, List, [], length, refl, sym, subst, ◌∙◌, arith}
use Rattle.std.specs.Prelude.{Err, Ok, OnOk, Result, is_some}
use Rattle.std.specs.Result.{result_err}
use Rattle.std.proofs.lemmas.List.{take_all}
use mathlib.Core.List.{IsPrefix}
use Rattle.aff_model.specs.History.{Part}
use Rattle.aff_model.specs.Plan.{Planned}
use Rattle.aff_snapshot.specs.Lists.{Beginning}
use Rattle.aff_snapshot.proofs.Beginnings.{prefix_length, prefix_self, prefix_trans}
use Rattle.aff_analyst.specs.Values.{MayHaveGrown}
use Rattle.aff_examine.specs.Folds.{Rule}
use Rattle.aff_examine.specs.Following.{Following, HasGoneOn, MayEnd, between, pieces_in, seen_by, shown_by}
use Rattle.aff_examine.specs.Sights.{FoldsOn, IsFold}
use Rattle.aff_examine.proofs.Folding.{between_longer, fold_between, folds_on, take_of_prefix}

grown_trans : {R : Type 0} (a b c : Option (Beginning R)) → MayHaveGrown a b → MayHaveGrown b c → MayHaveGrown a c
grown_trans None None None p q = q
grown_trans None None (Some z) p q = absurd (cc q)
grown_trans None (Some y) c p q = absurd (cc p)
grown_trans (Some x) None c p q = absurd p
grown_trans (Some x) (Some y) None p q = absurd q
grown_trans (Some x) (Some y) (Some z) p q = record { list = q.list ∙ p.list; longer = prefix_trans x.pieces y.pieces z.pieces p.longer q.longer }

grown_longer : {R : Type 0} (a b : Option (Beginning R)) → MayHaveGrown a b → IsPrefix (pieces_in a) (pieces_in b)
grown_longer None None p = prefix_self []
grown_longer None (Some y) p = absurd (cc p)
grown_longer (Some x) None p = absurd p
grown_longer (Some x) (Some y) p = p.longer

pub gone_trans : {R P : Type 0} (a b c : Following R P) → HasGoneOn a b → HasGoneOn b c → HasGoneOn a c
gone_trans a b c p q = record { plan = q.plan ∙ p.plan; viewer = grown_trans a.viewer b.viewer c.viewer p.viewer q.viewer; shown = omega (arith, p.shown, q.shown) }

-- where it has shown as many pieces as the plan has extents, it may end
end_by : {R P : Type 0} (f : Following R P) (o : Option (Beginning R)) → f.viewer ≡ o → length f.plan.extents ≤ f.shown → MayEnd f
end_by f None is whole = rw is tt
end_by f (Some v) is whole = rw is (inl whole)

pub may_end : {R P : Type 0} (f : Following R P) → length f.plan.extents ≤ f.shown → MayEnd f
may_end f whole = end_by f f.viewer refl whole

-- a fold of the same plan and rule, from the same piece on
like : (tells : Bool) {R : Type 0} (told : R → List ℕ) (plan same : Planned) (rule alike : Rule) (n m : ℕ) (pieces : List (Part R)) (from state : List ℕ) → same ≡ plan → alike ≡ rule → m ≡ n → IsFold same tells told alike m pieces from state → IsFold plan tells told rule n pieces from state
like tells told plan same rule alike n m pieces from state a b e fold = subst (λ (q : Planned). IsFold q tells told rule n pieces from state) a (subst (λ (r : Rule). IsFold same tells told r n pieces from state) b (subst (λ k. IsFold same tells told alike k pieces from state) e fold))

begins : {R : Type 0} (o : Option (Beginning R)) (pieces : List (Part R)) → IfSome o (λ v. IsPrefix v.pieces pieces) → IsPrefix (pieces_in o) pieces
begins None pieces p = (pieces, refl)
begins (Some v) pieces p = p

-- what it showed of what it saw is of a list that begins with that
pub shown_inside : {R P : Type 0} (f : Following R P) (pieces : List (Part R)) → f.shown ≤ length (seen_by f) → IfSome f.viewer (λ v. IsPrefix v.pieces pieces) → f.shown ≤ length pieces
shown_inside f pieces inside seen = let long = prefix_length (seen_by f) pieces (begins f.viewer pieces seen) in omega (arith, inside, long)

module _ (tells : Bool) {R P : Type 0} (told : R → List ℕ) where
  -- it looked, and showed what it then had seen
  pub follow_step : (first old mid new : Following R P) (rule alike : Rule) (from middle state : List ℕ) → HasGoneOn first old → old.shown ≤ length (seen_by old) → HasGoneOn old mid → mid.shown ≡ old.shown → HasGoneOn mid new → new.viewer ≡ mid.viewer → alike ≡ rule
      → IsFold first.plan tells told rule first.shown (between first.shown old.shown (seen_by old)) from middle → IsFold mid.plan tells told alike mid.shown (between mid.shown new.shown (seen_by mid)) middle state
      → IsFold first.plan tells told rule first.shown (between first.shown new.shown (seen_by new)) from state
  follow_step first old mid new rule alike from middle state a inside b same c viewer ruled f g =
      let longer : IsPrefix (seen_by old) (seen_by mid) = grown_longer old.viewer mid.viewer b.viewer in
      let long : length (seen_by old) ≤ length (seen_by mid) = prefix_length (seen_by old) (seen_by mid) longer in
      let earlier = subst (λ ps. IsFold first.plan tells told rule first.shown ps from middle) (sym (between_longer first.shown old.shown (seen_by old) (seen_by mid) longer inside a.shown)) f in
      let later : IsFold first.plan tells told rule old.shown (between old.shown new.shown (seen_by mid)) middle state =
      subst (λ k. IsFold first.plan tells told rule old.shown (between k new.shown (seen_by mid)) middle state) same (like tells told first.plan mid.plan rule alike old.shown mid.shown (between mid.shown new.shown (seen_by mid)) middle state (b.plan ∙ a.plan) ruled same g) in
      let whole = fold_between first.plan tells told rule first.shown old.shown new.shown (seen_by mid) from middle state a.shown (omega (arith, same, c.shown)) (omega (arith, inside, long)) earlier later in
      subst (λ o. IsFold first.plan tells told rule first.shown (between first.shown new.shown (pieces_in o)) from state) (sym viewer) whole

  -- what it showed of what it saw
  pub live_folds : (old new : Following R P) (rule : Rule) (before after : List ℕ) → HasGoneOn old new → old.shown ≤ length (seen_by old) → IsFold old.plan tells told rule old.shown (between old.shown new.shown (seen_by new)) before after → FoldsOn old.plan tells told rule (shown_by old) (shown_by new) before after
  live_folds old new rule before after on inside fold =
      let longer : IsPrefix (seen_by old) (seen_by new) = grown_longer old.viewer new.viewer on.viewer in
      let long : length (seen_by old) ≤ length (seen_by new) = prefix_length (seen_by old) (seen_by new) longer in
      folds_on old.plan tells told rule old.shown new.shown (shown_by old) (seen_by new) before after (sym (take_of_prefix old.shown (seen_by old) (seen_by new) longer inside)) on.shown (omega (arith, inside, long)) fold

  -- what it showed of the whole list, where that begins with what it saw
  pub close_folds : (old new : Following R P) (pieces : List (Part R)) (rule : Rule) (before after : List ℕ) → HasGoneOn old new → old.shown ≤ length (seen_by old) → IfSome old.viewer (λ v. IsPrefix v.pieces pieces) → new.shown ≡ length pieces
      → IsFold old.plan tells told rule old.shown (between old.shown new.shown pieces) before after → FoldsOn old.plan tells told rule (shown_by old) pieces before after
  close_folds old new pieces rule before after on inside seen all fold =
      let longer : IsPrefix (seen_by old) pieces = begins old.viewer pieces seen in
      let long : length (seen_by old) ≤ length pieces = prefix_length (seen_by old) pieces longer in
      let folds = folds_on old.plan tells told rule old.shown new.shown (shown_by old) pieces before after (sym (take_of_prefix old.shown (seen_by old) pieces longer inside)) on.shown (omega (arith, inside, long)) fold in
      subst (λ ps. FoldsOn old.plan tells told rule (shown_by old) ps before after) (take_all new.shown pieces (omega (arith, all))) folds

-- where there is no fault, none is found
pub no_fault : {E : Type 0} (o : Option E) (b : Bool) → b ≡ is_some o → b ≡ false → o ≡ None
no_fault None b is off = refl
no_fault (Some e) b is off = absurd (cc (is, off))

-- a call without a fault was answered
pub answered : {T E : Type 0} (r : Result T E) (o : Option E) (P : Type 0) → o ≡ result_err r → o ≡ None → OnOk r P → P
answered (Ok x) o P is none w = w
answered (Err e) o P is none w = absurd (cc (is, none))
