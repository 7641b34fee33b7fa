-- Looking a place up in entries of which no two share a byte, and the run that it begins.
use Rattle.std.proofs.Common.{◌≡◌, ℕ, zero, suc, ◌+◌, ◌-◌, ◌<◌, ◌≤◌, ◌⊎◌, inl, inr, Bool, true, false, cond, nat_lt, min, List, [], ◌∷◌, ◌++◌, length, get_or, take, refl, sym, ap, subst, ◌∙◌, arith, All, AllPairs}
use Rattle.std.specs.Prelude.{Option, Some, None, find, Any}
use Rattle.std.specs.Option.{option_map}
use Rattle.std.proofs.lemmas.Bool.{false≢true}
use Rattle.std.proofs.lemmas.Bool.Decides.{leb_tells, nat_tests}
use Rattle.std.proofs.lemmas.List.{take_more}
use Rattle.std.proofs.lemmas.List.Elements.{All-append, All-cons, All-nil}
use Rattle.std.proofs.lemmas.List.Quantifiers.{Any-push}
use Rattle.aff_fields.specs.declared.entry.Entry.{Entry}
use Rattle.aff_spec.specs.Runs.{covers, lookup, spot_in}
use Rattle.aff_spec.proofs.Lookups.{covered_from, covers_after, covers_before, covers_within, find_first, find_nothing}
use Rattle.aff_map.specs.Mapped.{AreApart}
use Rattle.aff_map.specs.Finding.{GoesOn, IsGapEnd}

-- what is found stands at a place of the list and passes
record IsFoundAt {X : Type 0} (p : X → Bool) (xs : List X) (x : X) : Type 0 where
  place : ℕ
  there : place < length xs
  is : (d : X) → get_or xs place d ≡ x
  passes : p x ≡ true

found_later : {X : Type 0} (p : X → Bool) (y : X) (xs : List X) (x : X) → IsFoundAt p xs x → IsFoundAt p (y ∷ xs) x
found_later p y xs x f = record { place = suc f.place; there = omega (arith, f.there); is = f.is; passes = f.passes }

found_at : {X : Type 0} (p : X → Bool) (xs : List X) (x : X) → find p xs ≡ Some x → IsFoundAt p xs x
found_at p [] x is = absurd (cc)
found_at {X} p (y ∷ xs) x is =
    elim (p y) as (λ b. p y ≡ b → cond b (Some y) (find p xs) ≡ Some x → IsFoundAt p (y ∷ xs) x) [
      | true ↦ λ passes same.
          let e : y ≡ x = cc in
          record { place = 0; there = omega arith; is = λ d. e; passes = ap p (sym e) ∙ passes }
      | false ↦ λ fails rest. found_later p y xs x (found_at p xs x rest)
    ] refl is

-- where nothing is found, nothing passes
none_passes : {X : Type 0} (p : X → Bool) (xs : List X) → find p xs ≡ None → All (λ x. p x ≡ false) xs
none_passes p [] is = All-nil (λ x. p x ≡ false)
none_passes {X} p (y ∷ xs) is =
    elim (p y) as (λ b. p y ≡ b → cond b (Some y) (find p xs) ≡ None → All (λ x. p x ≡ false) (y ∷ xs)) [
      | true ↦ λ passes same. absurd (cc)
      | false ↦ λ fails rest. All-cons (λ x. p x ≡ false) y xs fails (none_passes p xs rest)
    ] refl is

pub covered_to : (i : ℕ) (e : Entry) → covers i e ≡ true → i < e.at + e.len
covered_to i e h = elim (leb_tells (e.at + e.len) i) [
  | inl x ↦ absurd (false≢true (sym (covers_after i e x.1) ∙ h))
  | inr y ↦ y.1
]

-- an entry begun by a place that it does not cover ends by it
uncovered : (i : ℕ) (e : Entry) → covers i e ≡ false → e.at ≤ i → e.at + e.len ≤ i
uncovered i e h low = elim (leb_tells (e.at + e.len) i) [
  | inl x ↦ x.1
  | inr y ↦ absurd (false≢true (sym h ∙ covers_within i e low y.1))
]

-- what is apart from an entry does not cover that one's places
apart_misses : (i : ℕ) (e f : Entry) → AreApart e f → f.at ≤ i → i < f.at + f.len → covers i e ≡ false
apart_misses i e f apart low high = elim apart [
  | inl x ↦ covers_after i e (omega (arith, x, low))
  | inr y ↦ covers_before i e (omega (arith, y, high))
]

-- an entry is found at each of its places
pub find-covering : (es : List Entry) → AllPairs AreApart es → (i k : ℕ) (d : Entry) → k < length es → (get_or es k d).at ≤ i → i < (get_or es k d).at + (get_or es k d).len → find (covers i) es ≡ Some (get_or es k d)
find-covering es apart i k d below low high =
    find_first (covers i) es k d below
    (λ j before. apart_misses i (get_or es j d) (get_or es k d) (apart j k d before below) low high)
    (covers_within i (get_or es k d) low high)

-- the bytes up to the end of the entry that covers a place lead on in its target
pub goes_on-covered : (es : List Entry) → AllPairs AreApart es → (at len : ℕ) (e : Entry) → find (covers at) es ≡ Some e → at + len ≤ e.at + e.len → GoesOn es at len
goes_on-covered es apart at len e found ends j low =
    let f = found_at (covers at) es e found in
    let is : get_or es f.place e ≡ e = f.is e in
    let from : e.at ≤ at = covered_from at e f.passes in
    let P : Entry → Type 0 = λ x. x.at ≤ at + j → at + j < x.at + x.len → find (covers (at + j)) es ≡ Some x in
    let here : find (covers (at + j)) es ≡ Some e = subst P is (find-covering es apart (at + j) f.place e f.there) (omega (arith, from)) (omega (arith, low, ends)) in
    let place : e.target_at + (at + j - e.at) ≡ e.target_at + (at - e.at) + j = omega (arith, from) in
    ap (option_map (spot_in (at + j))) here ∙ (λ i. Some (e.target, place i)) ∙ sym (ap (λ o. option_map (λ (s : ℕ × ℕ). (s.0, s.1 + j)) (option_map (spot_in at) o)) found)

-- no place of a gap is covered
gap_uncovered : (es : List Entry) (size at end : ℕ) → find (covers at) es ≡ None → IsGapEnd es size at end → (i : ℕ) → at ≤ i → i < end → All (λ e. covers i e ≡ false) es
gap_uncovered es size at end none gap i low high k d below =
    let e : Entry = get_or es k d in
    elim (leb_tells e.at at) [
      | inl x ↦ covers_after i e (omega (arith, uncovered at e (none_passes (covers at) es none k d below) x.1, low))
      | inr y ↦ covers_before i e (omega (arith, gap.free k d below y.1, high))
    ]

pub goes_on-gap : (es : List Entry) (size at len : ℕ) → find (covers at) es ≡ None → IsGapEnd es size at (at + len) → GoesOn es at len
goes_on-gap es size at len none gap j low =
    let here : find (covers (at + j)) es ≡ None = find_nothing (covers (at + j)) es (gap_uncovered es size at (at + len) none gap (at + j) (omega arith) (omega (arith, low))) in
    ap (option_map (spot_in (at + j))) here ∙ sym (ap (λ o. option_map (λ (s : ℕ × ℕ). (s.0, s.1 + j)) (option_map (spot_in at) o)) none)

Any-more : {X : Type 0} (P : X → Type 0) (xs : List X) (y : X) → Any P xs → Any P (xs ++ y ∷ [])
Any-more P [] y a = absurd (omega (arith, a.2))
Any-more P (x ∷ xs) y (zero, w, below, is, holds) = (0, w, omega arith, is, holds)
Any-more P (x ∷ xs) y (suc k, w, below, is, holds) =
    let a = Any-more P xs y (k, w, omega (arith, below), is, holds) in
    (suc a.0, a.1, omega (arith, a.2), a.3, a.4)

-- one more entry: it leaves the end of a gap as it is, or begins before it
gap_end-keeps : (es : List Entry) (e : Entry) (size at end : ℕ) → IsGapEnd es size at end → (at < e.at → end ≤ e.at) → IsGapEnd (es ++ e ∷ []) size at end
gap_end-keeps es e size at end gap behind =
    let P : Entry → Type 0 = λ x. at < x.at → end ≤ x.at in
    record {
      behind = gap.behind;
      inside = gap.inside;
      free = All-append P es (e ∷ []) gap.free (All-cons P e [] behind (All-nil P));
      reached = λ short. Any-more (λ x. x.at ≡ end) es e (gap.reached short);
    }

gap_end-takes : (es : List Entry) (e : Entry) (size at end : ℕ) → IsGapEnd es size at end → at < e.at → e.at < end → IsGapEnd (es ++ e ∷ []) size at e.at
gap_end-takes es e size at end gap behind before =
    let P : Entry → Type 0 = λ x. at < x.at → e.at ≤ x.at in
    record {
      behind = behind;
      inside = omega (arith, gap.inside);
      free = All-append P es (e ∷ []) (λ k d below up. omega (arith, gap.free k d below up)) (All-cons P e [] (λ up. omega arith) (All-nil P));
      reached = λ short. Any-push (λ x. x.at ≡ e.at) es e refl;
    }

pub gap_end-none : (size at : ℕ) → at < size → IsGapEnd [] size at size
gap_end-none size at below =
    record {
      behind = below;
      inside = omega arith;
      free = All-nil (λ (x : Entry). at < x.at → size ≤ x.at);
      reached = λ short. absurd (omega (arith, short));
    }

gap_end-nearer : (es : List Entry) (e : Entry) (size at end new : ℕ) → IsGapEnd es size at end → new ≡ cond (nat_lt at e.at) (min end e.at) end → IsGapEnd (es ++ e ∷ []) size at new
gap_end-nearer es e size at end new gap is = elim (leb_tells (at + 1) e.at) [
  | inl x ↦ elim (leb_tells end e.at) [
    | inl y ↦ (let same : end ≡ new = grind (arith, nat_tests) in
        subst (IsGapEnd (es ++ e ∷ []) size at) same (gap_end-keeps es e size at end gap (λ up. y.1)))
    | inr y ↦ (let same : e.at ≡ new = grind (arith, nat_tests) in
        subst (IsGapEnd (es ++ e ∷ []) size at) same (gap_end-takes es e size at end gap (omega (arith, x.1)) y.1))
  ]
  | inr x ↦ (let same : end ≡ new = grind (arith, nat_tests) in
      subst (IsGapEnd (es ++ e ∷ []) size at) same (gap_end-keeps es e size at end gap (λ up. absurd (omega (arith, x.1, up)))))
]

pub gap_end-more : (es : List Entry) (k : ℕ) (d : Entry) (size at end new : ℕ) → k < length es → IsGapEnd (take k es) size at end → new ≡ cond (nat_lt at (get_or es k d).at) (min end (get_or es k d).at) end → IsGapEnd (take (k + 1) es) size at new
gap_end-more es k d size at end new below gap is =
    subst (λ xs. IsGapEnd xs size at new) (sym (take_more es k d below)) (gap_end-nearer (take k es) (get_or es k d) size at end new gap is)
