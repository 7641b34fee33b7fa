-- The places of the published extents.
use Rattle.std.proofs.Common.{◌≡◌, ◌≢◌, ℕ, ◌<◌, ◌≤◌, inl, inr, zero, suc, cond, Option, None, Some, List, [], ◌∷◌, ◌++◌, length, get_or, set, replicate, count_by, refl, sym, ap, ◌∙◌, arith, Contains, slice_get}
use Rattle.std.specs.Option.{is_none}
use Rattle.std.proofs.lemmas.Bool.{cases_eq}
use Rattle.std.proofs.lemmas.List.{get_or-set_same, get_or_append_left, get_or_push, length-set, length-replicate, length_push, get_or_default}
use Rattle.std.proofs.lemmas.List.Sums.{sum_by-set, sum_by-cons}
use Rattle.std.proofs.lemmas.Option.{slice_get-get_or, slice_get_within, same_Some, get_or_from_slice_get}
use Rattle.aff_core.specs.Kept.{Tracks}

pub slice_get-set_same : {X : Type 0} (xs : List X) (i : ℕ) (a : X) → i < length xs → slice_get (set xs i a) i ≡ Some a
slice_get-set_same xs i a b =
    let n = length-set xs i a in
    let inside : i < length (set xs i a) = omega arith in
    slice_get-get_or (set xs i a) i a inside ∙ ap Some (get_or-set_same xs i a a b)

pub slice_get-set_other : {X : Type 0} (xs : List X) (i j : ℕ) (a : X) → j ≢ i → slice_get (set xs i a) j ≡ slice_get xs j
slice_get-set_other [] i j a ne = refl
slice_get-set_other (x ∷ xs) zero zero a ne = absurd (ne refl)
slice_get-set_other (x ∷ xs) zero (suc j) a ne = refl
slice_get-set_other (x ∷ xs) (suc i) zero a ne = refl
slice_get-set_other (x ∷ xs) (suc i) (suc j) a ne = slice_get-set_other xs i j a (λ e. ne (ap suc e))

abbrev nobody : Option ℕ
nobody = None

abbrev none_at : Option ℕ → ℕ
none_at x = cond (is_none x) 1 0

-- where a list of places has an extent without, the count of those is not 0
count-some : (places : List (Option ℕ)) (e : ℕ) → slice_get places e ≡ Some None → 1 ≤ count_by is_none places
count-some places e h =
    let inside = slice_get_within places e None h in
    let at : get_or places e nobody ≡ None = get_or_from_slice_get places e None nobody h in
    let s = sum_by-set none_at places e (Some 0) nobody inside in
    let one : none_at (get_or places e nobody) ≡ none_at nobody = ap none_at at in
    omega (arith, s, one)

-- and it is 0 where none is without
count-none : (places : List (Option ℕ)) → ((k : ℕ) → slice_get places k ≢ Some None) → count_by is_none places ≡ 0
count-none [] h = refl
count-none (None ∷ places) h = absurd (h 0 refl)
count-none (Some q ∷ places) h = let rest = count-none places (λ k. h (suc k)) in let s = sum_by-cons none_at (Some q) places in omega (arith, s, rest)

count-replicate : (n : ℕ) → count_by is_none (replicate n nobody) ≡ n
count-replicate zero = refl
count-replicate (suc n) = let rest = count-replicate n in let s = sum_by-cons none_at nobody (replicate n nobody) in omega (arith, s, rest)

replicate-free : (n k q : ℕ) → slice_get (replicate n nobody) k ≢ Some (Some q)
replicate-free zero k q h = cc
replicate-free (suc n) zero q h = cc
replicate-free (suc n) (suc k) q h = replicate-free n k q h

pub tracks-start : (n : ℕ) → Tracks [] (replicate n None)
tracks-start n = record {
  each = λ q b. absurd (omega arith);
  found = λ e q h. absurd (replicate-free n e q h);
  count = let c = count-replicate n in let l = length-replicate n nobody in omega (arith, c, l);
}

-- an extent that has no place is not published, and one that has is
pub tracks-free : (out : List ℕ) (places : List (Option ℕ)) (e : ℕ) → Tracks out places → slice_get places e ≡ Some None → ¬ (Contains out e)
tracks-free out places e t h c =
    let at : get_or out c.0 0 ≡ e = get_or_default out c.0 0 e c.1 ∙ c.2 in
    let placed : slice_get places e ≡ Some (Some c.0) = ap (slice_get places) (sym at) ∙ t.each c.0 c.1 in
    let wrong : ◌≡◌ {A = Option (Option ℕ)} (Some None) (Some (Some c.0)) = sym h ∙ placed in
    cc

pub tracks-taken : (out : List ℕ) (places : List (Option ℕ)) (e q : ℕ) → Tracks out places → slice_get places e ≡ Some (Some q) → Contains out e
tracks-taken out places e q t h =
    let f = t.found e q h in (q, f.0, get_or_default out q e 0 f.0 ∙ f.1)

-- there is room for an extent that is not published
pub tracks-room : (out : List ℕ) (places : List (Option ℕ)) (e : ℕ) → Tracks out places → slice_get places e ≡ Some None → length out < length places
tracks-room out places e t h = let some = count-some places e h in omega (arith, t.count)

tracks-more-each : (out : List ℕ) (places : List (Option ℕ)) (e q : ℕ) → Tracks out places → slice_get places e ≡ Some None → q < length (out ++ e ∷ []) → slice_get (set places e (Some (length out))) (get_or (out ++ e ∷ []) q 0) ≡ Some (Some q)
tracks-more-each out places e q t h b =
    let n = length_push out e in
    let inside = slice_get_within places e None h in
    elim (cases_eq q (length out)) [
      | inl same ↦
          ap (slice_get (set places e (Some (length out)))) (get_or_push out e 0 q (sym same)) ∙ slice_get-set_same places e (Some (length out)) inside ∙ ap (λ k. Some (Some k)) (sym same)
      | inr other ↦ (
          let before : q < length out = omega arith in
          let read : get_or (out ++ e ∷ []) q 0 ≡ get_or out q 0 = get_or_append_left out (e ∷ []) 0 q before in
          let had : slice_get places (get_or out q 0) ≡ Some (Some q) = t.each q before in
          let differ : get_or out q 0 ≢ e = λ s. (let wrong : ◌≡◌ {A = Option (Option ℕ)} (Some None) (Some (Some q)) = sym h ∙ ap (slice_get places) (sym s) ∙ had in cc) in
          ap (slice_get (set places e (Some (length out)))) read ∙ slice_get-set_other places e (get_or out q 0) (Some (length out)) differ ∙ had)
    ]

tracks-more-found : (out : List ℕ) (places : List (Option ℕ)) (e k q : ℕ) → Tracks out places → slice_get places e ≡ Some None → slice_get (set places e (Some (length out))) k ≡ Some (Some q) → (q < length (out ++ e ∷ [])) × (get_or (out ++ e ∷ []) q 0 ≡ k)
tracks-more-found out places e k q t h g =
    let n = length_push out e in
    let inside = slice_get_within places e None h in
    elim (cases_eq k e) [
      | inl same ↦ (
          let there : slice_get (set places e (Some (length out))) k ≡ Some (Some (length out)) = ap (slice_get (set places e (Some (length out)))) same ∙ slice_get-set_same places e (Some (length out)) inside in
          let wrapped : ◌≡◌ {A = Option (Option ℕ)} (Some (Some q)) (Some (Some (length out))) = sym g ∙ there in
          let last : q ≡ length out = same_Some q (length out) (same_Some (Some q) (Some (length out)) wrapped) in
          (omega arith, get_or_push out e 0 q (sym last) ∙ sym same))
      | inr other ↦ (
          let f = t.found k q (sym (slice_get-set_other places e k (Some (length out)) other) ∙ g) in
          (omega (arith, f.0), get_or_append_left out (e ∷ []) 0 q f.0 ∙ f.1))
    ]

pub tracks-more : (out : List ℕ) (places : List (Option ℕ)) (e : ℕ) → Tracks out places → slice_get places e ≡ Some None → Tracks (out ++ e ∷ []) (set places e (Some (length out)))
tracks-more out places e t h = record {
  each = λ q b. tracks-more-each out places e q t h b;
  found = λ k q g. tracks-more-found out places e k q t h g;
  count =
      let n = length_push out e in
      let l = length-set places e (Some (length out)) in
      let at : get_or places e nobody ≡ None = get_or_from_slice_get places e None nobody h in
      let one : none_at (get_or places e nobody) ≡ none_at nobody = ap none_at at in
      let s = sum_by-set none_at places e (Some (length out)) nobody (slice_get_within places e None h) in
      omega (arith, n, l, one, s, t.count);
}

published_by : (out : List ℕ) (places : List (Option ℕ)) → Tracks out places → length places ≤ length out → (k : ℕ) (x : Option ℕ) → slice_get places k ≡ Some x → Contains out k
published_by out places t all k None h = absurd (let few = tracks-room out places k t h in omega arith)
published_by out places t all k (Some q) h = tracks-taken out places k q t h

-- all are published where there are as many as extents, and only there
pub tracks-complete : (out : List ℕ) (places : List (Option ℕ)) → Tracks out places → length places ≤ length out → (k : ℕ) → k < length places → Contains out k
tracks-complete out places t all k b = published_by out places t all k (get_or places k nobody) (slice_get-get_or places k nobody b)

pub tracks-incomplete : (out : List ℕ) (places : List (Option ℕ)) → Tracks out places → length out < length places → ¬ ((k : ℕ) → k < length places → Contains out k)
tracks-incomplete out places t few all =
    let none = count-none places (λ k h. tracks-free out places k t h (all k (slice_get_within places k None h))) in
    omega (arith, t.count, none)
