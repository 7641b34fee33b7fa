-- Folds that go on.
use Rattle.std.proofs.Common.{◌≡◌, ℕ, suc, ◌+◌, ◌-◌, ◌<◌, ◌≤◌, Bool, Some, List, [], ◌∷◌, ◌++◌, length, take, drop, get_or, refl, sym, ap, subst, ◌∙◌, arith, length-take, length-drop, slice_get}
use mathlib.Core.List.{IsPrefix}
use Rattle.std.proofs.Math.Seq.{take-add}
use Rattle.std.proofs.lemmas.List.{drop-drop, drop-take, get_or-drop, take-append-le, take_more}
use Rattle.std.proofs.lemmas.Option.{get_or_from_slice_get, slice_get_within}
use Rattle.aff_model.specs.History.{Part}
use Rattle.aff_model.specs.Plan.{Planned}
use Rattle.aff_examine.specs.Folds.{Rule, Sight, fold_of}
use Rattle.aff_examine.specs.Following.{between}
use Rattle.aff_examine.specs.Reading.{IsShownTo}
use Rattle.aff_examine.specs.Sights.{AreSights, FoldsOn, IsFold}

-- a fold over two lists, one after the other
fold_append : (rule : Rule) (from : List ℕ) (xs ys : List Sight) → fold_of rule from (xs ++ ys) ≡ fold_of rule (fold_of rule from xs) ys
fold_append rule from [] ys = refl
fold_append rule from (x ∷ xs) ys = fold_append rule (rule from x.piece x.bytes) xs ys

-- the pieces between two places, up to a later one
between_more : (n m : ℕ) {R : Type 0} (pieces : List (Part R)) (p : Part R) → n ≤ m → slice_get pieces m ≡ Some p → between n (m + 1) pieces ≡ between n m pieces ++ p ∷ []
between_more n m pieces p low is =
    let inside : m < length pieces = slice_get_within pieces m p is in
    let rest = drop n pieces in
    let short : m - n < length rest = omega (arith, length-drop n pieces, inside, low) in
    let count : m + 1 - n ≡ m - n + 1 = omega (arith, low) in
    let place : n + (m - n) ≡ m = omega (arith, low) in
    let next : get_or rest (m - n) p ≡ p = get_or-drop n pieces (m - n) p ∙ ap (λ k. get_or pieces k p) place ∙ get_or_from_slice_get pieces m p p is in
    ap (λ k. take k rest) count ∙ take_more rest (m - n) p short ∙ ap (λ x. take (m - n) rest ++ x ∷ []) next

between_on : (n m k : ℕ) {R : Type 0} (pieces : List (Part R)) → n ≤ m → m ≤ k → between n k pieces ≡ between n m pieces ++ between m k pieces
between_on n m k pieces low high =
    let count : k - n ≡ m - n + (k - m) = omega (arith, low, high) in
    let place : n + (m - n) ≡ m = omega (arith, low) in
    ap (λ i. take i (drop n pieces)) count ∙ take-add (m - n) (k - m) (drop n pieces) ∙ ap (λ l. between n m pieces ++ take (k - m) l) (drop-drop (m - n) n pieces ∙ ap (λ i. drop i pieces) place)

pub take_of_prefix : {A : Type 0} (k : ℕ) (xs ys : List A) → IsPrefix xs ys → k ≤ length xs → take k ys ≡ take k xs
take_of_prefix k xs ys p low = ap (take k) (sym p.1) ∙ take-append-le k xs p.0 low

-- what is between two places of a beginning is so in the longer list
pub between_longer : (n m : ℕ) {R : Type 0} (pieces longer : List (Part R)) → IsPrefix pieces longer → m ≤ length pieces → n ≤ m → between n m longer ≡ between n m pieces
between_longer n m pieces longer p inside low =
    let sum : n + (m - n) ≡ m = omega (arith, low) in
    sym (drop-take n (m - n) longer) ∙ ap (λ k. drop n (take k longer)) sum ∙ ap (drop n) (take_of_prefix m pieces longer p inside) ∙ sym (ap (λ k. drop n (take k pieces)) sum) ∙ drop-take n (m - n) pieces

pub between_none : (n : ℕ) {R : Type 0} (pieces : List (Part R)) → between n n pieces ≡ []
between_none n pieces = let none : n - n ≡ 0 = omega arith in ap (λ k. take k (drop n pieces)) none

length-between : (n m : ℕ) {R : Type 0} (pieces : List (Part R)) → n ≤ m → m ≤ length pieces → length (between n m pieces) ≡ m - n
length-between n m pieces low inside = omega (arith, length-take (m - n) (drop n pieces), length-drop n pieces, low, inside)

-- the first n pieces and those behind them
take_between : (n m : ℕ) {R : Type 0} (pieces : List (Part R)) → n ≤ m → take m pieces ≡ take n pieces ++ between n m pieces
take_between n m pieces low = let sum : m ≡ n + (m - n) = omega (arith, low) in ap (λ k. take k pieces) sum ∙ take-add n (m - n) pieces

module _ (plan : Planned) (tells : Bool) {R : Type 0} (told : R → List ℕ) where
  sights_append : (before : ℕ) (front rest : List (Part R)) (xs ys : List Sight) → AreSights plan tells told before front xs → AreSights plan tells told (before + length front) rest ys → AreSights plan tells told before (front ++ rest) (xs ++ ys)
  sights_append before [] rest [] ys a b = subst (λ n. AreSights plan tells told n rest ys) (omega arith) b
  sights_append before [] rest (x ∷ xs) ys a b = absurd a
  sights_append before (p ∷ front) rest [] ys a b = absurd a
  sights_append before (p ∷ front) rest (x ∷ xs) ys a b = (a.0, sights_append (suc before) front rest xs ys a.1 (subst (λ n. AreSights plan tells told n rest ys) (omega arith) b))

  module _ (rule : Rule) where
    pub fold_none : (before : ℕ) (state : List ℕ) → IsFold plan tells told rule before [] state state
    fold_none before state = record { sights = []; are = tt; folded = refl }

    pub fold_on : (before : ℕ) (front rest : List (Part R)) (from middle state : List ℕ) → IsFold plan tells told rule before front from middle → IsFold plan tells told rule (before + length front) rest middle state → IsFold plan tells told rule before (front ++ rest) from state
    fold_on before front rest from middle state f g = record {
      sights = f.sights ++ g.sights;
      are = sights_append before front rest f.sights g.sights f.are g.are;
      folded = g.folded ∙ ap (λ s. fold_of rule s g.sights) f.folded ∙ sym (fold_append rule from f.sights g.sights);
    }

    fold_one : (number : ℕ) (p : Part R) (old new : List ℕ) → IsShownTo plan tells told rule (suc number) p old new → IsFold plan tells told rule number (p ∷ []) old new
    fold_one number p old new shown = record { sights = shown.sight ∷ []; are = (shown.of, tt); folded = shown.seen }

    -- one piece more is shown
    pub fold_more : (n m : ℕ) (pieces : List (Part R)) (p : Part R) (from middle state : List ℕ) → n ≤ m → slice_get pieces m ≡ Some p → IsFold plan tells told rule n (between n m pieces) from middle → IsShownTo plan tells told rule (m + 1) p middle state
        → IsFold plan tells told rule n (between n (m + 1) pieces) from state
    fold_more n m pieces p from middle state low is fold shown =
        let count : n + length (between n m pieces) ≡ m = omega (arith, length-between n m pieces low (omega (arith, slice_get_within pieces m p is)), low) in
        let next : m + 1 ≡ suc m = omega arith in
        let more = fold_on n (between n m pieces) (p ∷ []) from middle state fold (subst (λ k. IsFold plan tells told rule k (p ∷ []) middle state) (sym count) (fold_one m p middle state (subst (λ k. IsShownTo plan tells told rule k p middle state) next shown))) in
        subst (λ ps. IsFold plan tells told rule n ps from state) (sym (between_more n m pieces p low is)) more

    pub fold_still : (n : ℕ) (pieces : List (Part R)) (state : List ℕ) → IsFold plan tells told rule n (between n n pieces) state state
    fold_still n pieces state = subst (λ ps. IsFold plan tells told rule n ps state state) (sym (between_none n pieces)) (fold_none n state)

    -- a fold between two places, and one up to a later place
    pub fold_between : (n m k : ℕ) (pieces : List (Part R)) (from middle state : List ℕ) → n ≤ m → m ≤ k → m ≤ length pieces → IsFold plan tells told rule n (between n m pieces) from middle → IsFold plan tells told rule m (between m k pieces) middle state
        → IsFold plan tells told rule n (between n k pieces) from state
    fold_between n m k pieces from middle state low high inside f g =
        let count : m ≡ n + length (between n m pieces) = omega (arith, length-between n m pieces low inside, low) in
        subst (λ ps. IsFold plan tells told rule n ps from state) (sym (between_on n m k pieces low high)) (fold_on n (between n m pieces) (between m k pieces) from middle state f (subst (λ i. IsFold plan tells told rule i (between m k pieces) middle state) count g))

    -- what was folded over the first pieces, goes on behind them
    pub folds_on : (n m : ℕ) (front pieces : List (Part R)) (old new : List ℕ) → front ≡ take n pieces → n ≤ m → n ≤ length pieces → IsFold plan tells told rule n (between n m pieces) old new → FoldsOn plan tells told rule front (take m pieces) old new
    folds_on n m front pieces old new is low inside g = λ from f.
        let count : n ≡ 0 + length (take n pieces) = omega (arith, length-take n pieces, inside) in
        subst (λ ps. IsFold plan tells told rule 0 ps from new) (sym (take_between n m pieces low))
        (fold_on 0 (take n pieces) (between n m pieces) from old new (subst (λ ps. IsFold plan tells told rule 0 ps from old) is f) (subst (λ i. IsFold plan tells told rule i (between n m pieces) old new) count g))

-- the same of a plan and a rule that are the same
pub shown_like : (tells : Bool) {R : Type 0} (told : R → List ℕ) (plan same : Planned) (rule alike : Rule) (front : ℕ) (p : Part R) (old new : List ℕ) → same ≡ plan → alike ≡ rule → IsShownTo same tells told alike front p old new → IsShownTo plan tells told rule front p old new
shown_like tells told plan same rule alike front p old new a b shown =
    subst (λ (q : Planned). IsShownTo q tells told rule front p old new) a (subst (λ (r : Rule). IsShownTo same tells told r front p old new) b shown)
