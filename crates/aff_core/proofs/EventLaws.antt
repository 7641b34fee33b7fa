-- What every list of events keeps.
use Rattle.std.proofs.Common.{◌≡◌, ◌==◌, nat_eq, ℕ, ◌+◌, ◌≤◌, zero, suc, Bool, true, false, cond, Option, None, Some, List, [], ◌∷◌, ◌++◌, length, refl, sym, ap, subst, ◌∙◌, zero-add, arith, All, slice_get}
use Rattle.std.specs.Cmp.{IsEquivalence}
use Rattle.std.specs.List.{IsDistinct, list_any}
use Rattle.std.specs.List.Sorted.{IsNonDecreasing}
use Rattle.std.proofs.lemmas.Bool.Decides.{nat_tests}
use Rattle.std.proofs.lemmas.List.{append_assoc, append-nil, length-append, map-append}
use Rattle.std.proofs.lemmas.List.Sums.{sum_by-cons}
use Rattle.std.proofs.lemmas.Map.Keys.{IsDistinct-push, IsDistinct-from_apart}
use Rattle.std.proofs.lemmas.Map.Views.{Contains-from_any}
use Rattle.aff_core.specs.declared.event.Event.{Event}
use Rattle.aff_core.specs.declared.event.Event.TheVariants.{Claim, Publish, Read, Raise, Finish}
use Rattle.aff_model.specs.Kinds.{kind_at, kind_by}
use Rattle.aff_core.specs.Laws.{finish_count, fronts_of, is_finish, kind_of}
use Rattle.aff_core.specs.Steps.{CoreState, IsRun, IsStep, extents_out}
use Rattle.aff_core.proofs.EventLists.{run-split}
use Rattle.aff_core.proofs.KindLists.{not_true}
use Rattle.aff_model.specs.declared.cell.Cell.{Cell}
use Rattle.aff_model.specs.declared.cell.Cell.TheVariants.{Byte, Unreadable}
use Rattle.aff_model.specs.declared.extent.Extent.{Extent}
use Rattle.aff_model.specs.Cells.{cell_by, cell_of, is_bad_at}
use Rattle.aff_model.specs.Content.{Content}
use Rattle.aff_model.specs.History.{Published}
use Rattle.aff_model.specs.Legal.{IsComplete}
use Rattle.aff_model.specs.Plan.{has_place}

-- what a history has more after a step
abbrev Grows : CoreState → CoreState → Type 0
Grows c d = (more : List Published) × (d.history ≡ c.history ++ more)

same_history : (c d : CoreState) → d.history ≡ c.history → Grows c d
same_history c d h = ([], h ∙ sym (append-nil c.history))

step-grows : (c : CoreState) (e : Event) (d : CoreState) → IsStep c e d → Grows c d
step-grows c (Claim k e) d h = same_history c d (ap (λ (s : CoreState). s.history) h.1)
step-grows c (Publish p) d h = (p ∷ [], ap (λ (s : CoreState). s.history) h.1)
step-grows c (Read s a l n) d h = same_history c d (ap (λ (s : CoreState). s.history) h.1)
step-grows c (Raise s e) d h = same_history c d (ap (λ (s : CoreState). s.history) h.1)
step-grows c Finish d h = same_history c d (ap (λ (s : CoreState). s.history) h.1)

pub run-grows : (c : CoreState) (es : List Event) (d : CoreState) → IsRun c es d → Grows c d
run-grows c [] d h = same_history c d (ap (λ (s : CoreState). s.history) h)
run-grows c (e ∷ es) d h =
    let first = step-grows c e h.0 h.1 in
    let rest = run-grows h.0 es d h.2 in
    (first.0 ++ rest.0, rest.1 ∙ ap (λ l. l ++ rest.0) first.1 ∙ append_assoc c.history first.0 rest.0)

longer : (c d : CoreState) → Grows c d → length c.history ≤ length d.history
longer c d g = let n = ap length g.1 in let m = length-append c.history g.0 in omega (arith, n, m)

-- each extent once
nat_eq-IsEquivalence : IsEquivalence nat_eq
nat_eq-IsEquivalence = record { refl = λ x. grind (arith, nat_tests); symm = λ x y. grind (arith, nat_tests); congr = λ x y z h. grind (arith, nat_tests) }

eq-same : (x y : ℕ) → nat_eq x y ≡ true → x ≡ y
eq-same x y h = grind (arith, nat_tests)

step-once : (c : CoreState) (e : Event) (d : CoreState) → IsStep c e d → IsDistinct nat_eq (extents_out c.history) → IsDistinct nat_eq (extents_out d.history)
step-once c (Claim k e) d h o = let P : CoreState → Type 0 = λ s. IsDistinct nat_eq (extents_out s.history) in subst P (sym h.1) o
step-once c (Publish p) d h o =
    let P : CoreState → Type 0 = λ s. IsDistinct nat_eq (extents_out s.history) in
    let Q : List ℕ → Type 0 = IsDistinct nat_eq in
    let new : list_any (nat_eq p.extent) (extents_out c.history) ≡ false =
    not_true _ (λ any. h.0.unpublished (Contains-from_any eq-same p.extent (extents_out c.history) any)) in
    subst P (sym h.1) (subst Q (sym (map-append (λ (q : Published). q.extent) c.history (p ∷ []))) (IsDistinct-push nat_eq-IsEquivalence (extents_out c.history) p.extent o new))
step-once c (Read s a l n) d h o = let P : CoreState → Type 0 = λ s. IsDistinct nat_eq (extents_out s.history) in subst P (sym h.1) o
step-once c (Raise s e) d h o = let P : CoreState → Type 0 = λ s. IsDistinct nat_eq (extents_out s.history) in subst P (sym h.1) o
step-once c Finish d h o = let P : CoreState → Type 0 = λ s. IsDistinct nat_eq (extents_out s.history) in subst P (sym h.1) o

pub run-once : (c : CoreState) (es : List Event) (d : CoreState) → IsRun c es d → IsDistinct nat_eq (extents_out c.history) → IsDistinct nat_eq (extents_out d.history)
run-once c [] d h o = let P : CoreState → Type 0 = λ s. IsDistinct nat_eq (extents_out s.history) in subst P (sym h) o
run-once c (e ∷ es) d h o = run-once h.0 es d h.2 (step-once c e h.0 h.1 o)

pub none-IsDistinct : IsDistinct nat_eq []
none-IsDistinct = IsDistinct-from_apart nat_eq [] (λ i j d b l. absurd (omega arith))

-- fronts: none is below the history's length at the start, and they do not fall
abbrev FrontsFrom : ℕ → List ℕ → Type 0
FrontsFrom low fronts = All (λ f. low ≤ f) fronts × IsNonDecreasing fronts

lower : (low high : ℕ) (fronts : List ℕ) → low ≤ high → FrontsFrom high fronts → FrontsFrom low fronts
lower low high fronts h f = (λ k d b. omega (arith, f.0 k d b), f.1)

cons_all : (f : ℕ) (fronts : List ℕ) → All (λ x. f ≤ x) fronts → All (λ x. f ≤ x) (f ∷ fronts)
cons_all f fronts h zero d b = omega arith
cons_all f fronts h (suc k) d b = h k d (omega arith)

cons_rising : (f : ℕ) (fronts : List ℕ) → FrontsFrom f fronts → IsNonDecreasing (f ∷ fronts)
cons_rising f fronts h zero zero d ij b = omega arith
cons_rising f fronts h zero (suc j) d ij b = h.0 j d (omega arith)
cons_rising f fronts h (suc i) zero d ij b = absurd (omega arith)
cons_rising f fronts h (suc i) (suc j) d ij b = h.1 i j d (omega arith) (omega arith)

fronts-cons : (f : ℕ) (fronts : List ℕ) → FrontsFrom f fronts → FrontsFrom f (f ∷ fronts)
fronts-cons f fronts h = (cons_all f fronts h.0, cons_rising f fronts h)

cond_fronts : (b : Bool) (f : ℕ) (fronts : List ℕ) → FrontsFrom f fronts → FrontsFrom f (cond b (f ∷ fronts) fronts)
cond_fronts true f fronts h = fronts-cons f fronts h
cond_fronts false f fronts h = h

pub run-fronts : (s : ℕ) (c : CoreState) (es : List Event) (d : CoreState) → IsRun c es d → FrontsFrom (length c.history) (fronts_of s es)
run-fronts s c [] d h = (λ k e b. absurd (omega arith), λ i j e ij b. absurd (omega arith))
run-fronts s c (Claim k e ∷ es) d h = lower _ _ _ (longer c h.0 (step-grows c (Claim k e) h.0 h.1)) (run-fronts s h.0 es d h.2)
run-fronts s c (Publish p ∷ es) d h = lower _ _ _ (longer c h.0 (step-grows c (Publish p) h.0 h.1)) (run-fronts s h.0 es d h.2)
run-fronts s c (Read r a l n ∷ es) d h =
    let rest = lower _ _ _ (longer c h.0 (step-grows c (Read r a l n) h.0 h.1)) (run-fronts s h.0 es d h.2) in
    let P : ℕ → Type 0 = λ f. FrontsFrom f (cond (r == s) (n ∷ fronts_of s es) (fronts_of s es)) in
    let Q : ℕ → Type 0 = λ f. FrontsFrom f (fronts_of s es) in
    subst P h.1.0.present (cond_fronts (r == s) n (fronts_of s es) (subst Q (sym h.1.0.present) rest))
run-fronts s c (Raise r e ∷ es) d h = lower _ _ _ (longer c h.0 (step-grows c (Raise r e) h.0 h.1)) (run-fronts s h.0 es d h.2)
run-fronts s c (Finish ∷ es) d h = lower _ _ _ (longer c h.0 (step-grows c Finish h.0 h.1)) (run-fronts s h.0 es d h.2)

-- Finish
abbrev mark_of : Bool → ℕ
mark_of b = cond b 1 0

step-finish : (c : CoreState) (e : Event) (d : CoreState) → IsStep c e d → mark_of (is_finish e) + mark_of c.finished ≡ mark_of d.finished
step-finish c (Claim k e) d h = ap (λ b. 0 + mark_of b) (sym (ap (λ (s : CoreState). s.finished) h.1)) ∙ zero-add (mark_of d.finished)
step-finish c (Publish p) d h = ap (λ b. 0 + mark_of b) (sym (ap (λ (s : CoreState). s.finished) h.1)) ∙ zero-add (mark_of d.finished)
step-finish c (Read s a l n) d h = ap (λ b. 0 + mark_of b) (sym (ap (λ (s : CoreState). s.finished) h.1)) ∙ zero-add (mark_of d.finished)
step-finish c (Raise s e) d h = ap (λ b. 0 + mark_of b) (sym (ap (λ (s : CoreState). s.finished) h.1)) ∙ zero-add (mark_of d.finished)
step-finish c Finish d h = ap (λ b. 1 + mark_of b) h.0.going ∙ ap mark_of (sym (ap (λ (s : CoreState). s.finished) h.1))

pub run-finish : (c : CoreState) (es : List Event) (d : CoreState) → IsRun c es d → finish_count es + mark_of c.finished ≡ mark_of d.finished
run-finish c [] d h = zero-add (mark_of c.finished) ∙ ap (λ (s : CoreState). mark_of s.finished) (sym h)
run-finish c (e ∷ es) d h =
    let first = step-finish c e h.0 h.1 in
    let rest = run-finish h.0 es d h.2 in
    let split = sum_by-cons (λ x. mark_of (is_finish x)) e es in
    omega (arith, first, rest, split)

pub record IsFinishedAt (c : CoreState) (before : List Event) : Type 0 where
  pub between : CoreState
  pub front : IsRun c before between
  pub complete : IsComplete between.plan.extents between.history

pub finish-complete : (c : CoreState) (before after : List Event) (d : CoreState) → IsRun c (before ++ Finish ∷ after) d → IsFinishedAt c before
finish-complete c before after d h =
    let two = run-split c before (Finish ∷ after) d h in
    record { between = two.between; front = two.front; complete = two.back.1.0.complete }

-- kinds
by_tests : (content : Content) (holds bad : Bool) (i : ℕ) (others : Cell) → kind_of (cond holds (cond bad Unreadable (Byte (content.byte i))) others) ≡ cond holds (cond bad (kind_of Unreadable) (kind_of (Byte (content.byte i)))) (kind_of others)
by_tests content true true i others = refl
by_tests content true false i others = refl
by_tests content false bad i others = refl

kind_by-cell : (content : Content) (o : Option Extent) (p : Published) (i : ℕ) (others : Cell) → kind_of (cell_by content o p i others) ≡ kind_by o p i (kind_of others)
kind_by-cell content None p i others = refl
kind_by-cell content (Some e) p i others = by_tests content (has_place i e) (is_bad_at e p i) i others

pub kind_at-cell : (content : Content) (es : List Extent) (history : List Published) (i : ℕ) → kind_of (cell_of content es history i) ≡ kind_at es history i
kind_at-cell content es [] i = refl
kind_at-cell content es (p ∷ history) i =
    kind_by-cell content (slice_get es p.extent) p i (cell_of content es history i) ∙ ap (kind_by (slice_get es p.extent) p i) (kind_at-cell content es history i)
