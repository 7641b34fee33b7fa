-- Lists of events and the states that they lead to.
use Rattle.std.proofs.Common.{◌≡◌, ℕ, ◌+◌, ◌<◌, ◌≤◌, inl, inr, true, false, Some, Result, Ok, Err, OnOk, OnErr, List, [], ◌∷◌, ◌++◌, length, get_or, take, drop, refl, sym, ap, subst, ◌∙◌, zero-add, arith}
use Rattle.std.specs.Result.{is_err}
use Rattle.std.specs.List.{enumerate_from}
use Rattle.std.proofs.lemmas.List.FromFn.{length-enumerate_from, get_or-enumerate_from}
use Rattle.std.proofs.lemmas.Bool.Decides.{leb_tells}
use Rattle.std.proofs.lemmas.List.{take-append-drop, take-take, take_all, take_more, drop_more, get_or-take, length-take-le}
use Rattle.std.proofs.lemmas.Option.{get_or_from_slice_get, slice_get_within, slice_get-get_or}
use Rattle.aff_core.specs.declared.event.Event.{Event}
use Rattle.aff_core.specs.declared.event.Event.TheVariants.{Claim, Publish, Read, Raise, Finish}
use Rattle.aff_core.specs.Steps.{CoreState, IsStep, HasNoStep, IsRun, IsFirstRefused}

pub step-unique : (c : CoreState) (e : Event) (d f : CoreState) → IsStep c e d → IsStep c e f → d ≡ f
step-unique c (Claim k e) d f h q = h.1 ∙ sym q.1
step-unique c (Publish p) d f h q = h.1 ∙ sym q.1
step-unique c (Read s a l n) d f h q = h.1 ∙ sym q.1
step-unique c (Raise s e) d f h q = h.1 ∙ sym q.1
step-unique c Finish d f h q = h.1 ∙ sym q.1

pub run-unique : (c : CoreState) (es : List Event) (d f : CoreState) → IsRun c es d → IsRun c es f → d ≡ f
run-unique c [] d f h q = h ∙ sym q
run-unique c (e ∷ es) d f h q =
    let P : CoreState → Type 0 = λ m. IsRun m es f in
    run-unique h.0 es d f h.2 (subst P (step-unique c e q.0 h.0 q.1 h.1) q.2)

pub run-join : (c : CoreState) (xs ys : List Event) (m d : CoreState) → IsRun c xs m → IsRun m ys d → IsRun c (xs ++ ys) d
run-join c [] ys m d h q = let P : CoreState → Type 0 = λ s. IsRun s ys d in subst P h q
run-join c (x ∷ xs) ys m d h q = (h.0, h.1, run-join h.0 xs ys m d h.2 q)

pub record IsSplit (c : CoreState) (xs ys : List Event) (d : CoreState) : Type 0 where
  pub between : CoreState
  pub front : IsRun c xs between
  pub back : IsRun between ys d

pub run-split : (c : CoreState) (xs ys : List Event) (d : CoreState) → IsRun c (xs ++ ys) d → IsSplit c xs ys d
run-split c [] ys d h = record { between = c; front = refl; back = h }
run-split c (x ∷ xs) ys d h =
    let rest = run-split h.0 xs ys d h.2 in
    record { between = rest.between; front = (h.0, h.1, rest.front); back = rest.back }

-- one event more
pub run-more : (c : CoreState) (es : List Event) (n : ℕ) (e : Event) (m d : CoreState) → n < length es → get_or es n e ≡ e → IsRun c (take n es) m → IsStep m e d → IsRun c (take (n + 1) es) d
run-more c es n e m d b is h s =
    let P : List Event → Type 0 = λ l. IsRun c l d in
    let joined : take n es ++ e ∷ [] ≡ take (n + 1) es = sym (take_more es n e b ∙ ap (λ x. take n es ++ x ∷ []) is) in
    subst P joined (run-join c (take n es) (e ∷ []) m d h (d, s, refl))

pub refused-at : (c : CoreState) (es : List Event) (n : ℕ) (e : Event) (m : CoreState) → n < length es → get_or es n e ≡ e → IsRun c (take n es) m → HasNoStep m e → IsFirstRefused c es n
refused-at c es n e m b is h none = record { state = m; event = e; before = h; there = slice_get-get_or es n e b ∙ ap Some is; refused = none }

-- a list with a first event that is no step is no run
pub refused-no_run : (c : CoreState) (es : List Event) (n : ℕ) (d : CoreState) → IsFirstRefused c es n → ¬ (IsRun c es d)
refused-no_run c es n d r h =
    let b = slice_get_within es n r.event r.there in
    let at : get_or es n r.event ≡ r.event = get_or_from_slice_get es n r.event r.event r.there in
    let P : List Event → Type 0 = λ l. IsRun c l d in
    let cut : es ≡ take n es ++ r.event ∷ drop (n + 1) es = sym (take-append-drop n es) ∙ ap (λ l. take n es ++ l) (drop_more es n r.event b ∙ ap (λ x. x ∷ drop (n + 1) es) at) in
    let two = run-split c (take n es) (r.event ∷ drop (n + 1) es) d (subst P cut h) in
    let same : two.between ≡ r.state = run-unique c (take n es) two.between r.state two.front r.before in
    let Q : CoreState → Type 0 = λ m. IsStep m r.event two.back.0 in
    r.refused two.back.0 (subst Q same two.back.1)

not_sooner : (c : CoreState) (es : List Event) (i j : ℕ) → IsFirstRefused c es i → IsFirstRefused c es j → j ≤ i
not_sooner c es i j a b = elim (leb_tells j i) [
  | inl x ↦ x.1
  | inr y ↦ absurd (
      let inside = slice_get_within es j b.event b.there in
      let n : length (take j es) ≡ j = length-take-le j es (omega arith) in
      let at : get_or (take j es) i a.event ≡ a.event = get_or-take j es i a.event y.1 ∙ get_or_from_slice_get es i a.event a.event a.there in
      let P : List Event → Type 0 = λ l. IsRun c l a.state in
      let front : IsRun c (take i (take j es)) a.state = subst P (sym (take-take i j es (omega arith))) a.before in
      refused-no_run c (take j es) i b.state (refused-at c (take j es) i a.event a.state (omega arith) at front a.refused) b.before)
]

pub refused-unique : (c : CoreState) (es : List Event) (i j : ℕ) → IsFirstRefused c es i → IsFirstRefused c es j → i ≡ j
refused-unique c es i j a b = let u = not_sooner c es i j a b in let v = not_sooner c es j i b a in omega arith

-- what an item of the numbered events is
pub record IsTurn (es : List Event) (n place : ℕ) (e : Event) : Type 0 where
  pub inside : n < length es
  pub place_is : place ≡ n
  pub event_is : get_or es n e ≡ e

pub turn-from_enumerate : (es : List Event) (n place : ℕ) (e : Event) → n < length (enumerate_from 0 es) → (let p : ℕ × Event = (place, e) in p ≡ get_or (enumerate_from 0 es) n p) → IsTurn es n place e
turn-from_enumerate es n place e b is =
    let l = length-enumerate_from 0 es in
    let inside : n < length es = omega arith in
    let pair : ℕ × Event = (place, e) in
    let both : pair ≡ (0 + n, get_or es n e) = is ∙ get_or-enumerate_from 0 es n pair inside in
    record { inside = inside; place_is = ap (λ (p : ℕ × Event). p.0) both ∙ zero-add n; event_is = sym (ap (λ (p : ℕ × Event). p.1) both) }

pub ok_then : {T E : Type 0} (r : Result T E) (P : Type 0) → is_err r ≡ false → OnOk r P → P
ok_then (Ok x) P b h = h
ok_then (Err e) P b h = cc

pub err_then : {T E : Type 0} (r : Result T E) (P : Type 0) → is_err r ≡ true → OnErr r P → P
err_then (Ok x) P b h = cc
err_then (Err e) P b h = h

-- all events make a run
pub run-whole : (c : CoreState) (es : List Event) (n : ℕ) (d : CoreState) → length es ≤ n → IsRun c (take n es) d → IsRun c es d
run-whole c es n d b h = let P : List Event → Type 0 = λ l. IsRun c l d in subst P (take_all n es b) h

-- the plan stays
pub step-plan : (c : CoreState) (e : Event) (d : CoreState) → IsStep c e d → d.plan ≡ c.plan
step-plan c (Claim k e) d h = ap (λ (s : CoreState). s.plan) h.1
step-plan c (Publish p) d h = ap (λ (s : CoreState). s.plan) h.1
step-plan c (Read s a l n) d h = ap (λ (s : CoreState). s.plan) h.1
step-plan c (Raise s e) d h = ap (λ (s : CoreState). s.plan) h.1
step-plan c Finish d h = ap (λ (s : CoreState). s.plan) h.1

pub run-plan : (c : CoreState) (es : List Event) (d : CoreState) → IsRun c es d → d.plan ≡ c.plan
run-plan c [] d h = ap (λ (s : CoreState). s.plan) h
run-plan c (e ∷ es) d h = run-plan h.0 es d h.2 ∙ step-plan c e h.0 h.1
