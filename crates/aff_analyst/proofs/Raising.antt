-- Which extents share a byte with a range, by an index.
use Rattle.std.proofs.Common.{◌≡◌, ◌≢◌, ◌↔◌, ℕ, ◌+◌, ◌<◌, ◌≤◌, true, false, Option, None, Some, is_some, IfSome, inl, inr, List, [], ◌∷◌, ◌++◌, length, get_or, refl, sym, ap, subst, ◌∙◌, ⊎_elim, arith, below_more, All, AllPairs, Contains, IsTrue, IsSomeAnd, slice_get, append_assoc, append-nil}
use Rattle.std.specs.List.Sorted.{IsNonDecreasingBy}
use Rattle.std.proofs.lemmas.Bool.Decides.{leb_tells, nat_tests}
use Rattle.std.proofs.lemmas.List.{get_or_default}
use Rattle.std.proofs.lemmas.List.Elements.{Contains-push, Contains-push_cases, Contains-append_left}
use Rattle.std.proofs.lemmas.Option.{slice_get-get_or, slice_get_past}
use Rattle.aff_model.specs.declared.extent.Extent.{Extent}
use Rattle.aff_model.specs.History.{Part}
use Rattle.aff_model.specs.Index.{no_extent, IsIndex, HasBytes, extent_at, start_of, end_of}
use Rattle.aff_model.specs.Plan.{AreApart, IsPlan, has_place}
use Rattle.aff_model.proofs.Find.{found, has_place-inside}
use Rattle.aff_model.proofs.Index.{ends_before, number_below, place_of, rises-from_apart}
use Rattle.aff_claim.specs.declared.view.PassView.{PassView}
use Rattle.aff_claim.specs.Steps.{raising}
use Rattle.aff_analyst.specs.Raised.{HasRaised, IsMissed, Shares}
use Rattle.aff_analyst.specs.Seen.{IsOfNone, extents_of}

-- extents of a plan have bytes, and end below 2 ^ 64
pub plan_bytes : (size block : ℕ) (es : List Extent) → size < 18446744073709551616 → IsPlan size block es → All HasBytes es
plan_bytes size block es small plan = λ k d l. let e = plan.each k d l in let some = e.some in let inside = e.inside in (some, omega arith)

-- the ends rise by the index
pub ends_rise : (es : List Extent) (index : List ℕ) → All HasBytes es → AllPairs AreApart es → IsIndex es index → IsNonDecreasingBy (end_of es) index
ends_rise es index bytes apart h i j d le l = elim (leb_tells j i) [
  | inl x ↦ (let same : i ≡ j = omega (arith, le, x.1) in subst (λ k. end_of es (get_or index i d) ≤ end_of es (get_or index k d)) same (omega arith))
  | inr y ↦ (
      let within : i < length index = omega (arith, y.1, l) in
      let before = ends_before es index h (rises-from_apart es index h bytes apart) i j y.1 l in
      rw (get_or_default index i d 0 within, get_or_default index j d 0 l) (omega (arith, before)))
]

-- an extent that shares a byte begins before the range's end and ends behind its begin, and the other way round
pub shares_ends : (es : List Extent) (at len e : ℕ) → Shares es at len e → (e < length es) × (start_of es e < at + len) × (at < end_of es e)
shares_ends es at len e s =
    let inside : e < length es = within es e s.place s.has in
    let has = place_in es e s.place inside s.has in
    let from = s.from in
    let to = s.to in
    (inside, omega (arith, has.0, to), omega (arith, has.1, from))
  where
    within : (xs : List Extent) (k i : ℕ) → IsSomeAnd (slice_get xs k) (λ x. IsTrue (has_place i x)) → k < length xs
    within xs k i h = elim (leb_tells (length xs) k) [
      | inl x ↦ absurd (subst (λ o. IsSomeAnd o (λ y. IsTrue (has_place i y))) (slice_get_past xs k x.1) h)
      | inr y ↦ y.1
    ]

    place_in : (xs : List Extent) (k i : ℕ) → k < length xs → IsSomeAnd (slice_get xs k) (λ x. IsTrue (has_place i x)) → (start_of xs k ≤ i) × (i < end_of xs k)
    place_in xs k i l h = by_tests (extent_at xs k) i (subst (λ o. IsSomeAnd o (λ y. IsTrue (has_place i y))) (slice_get-get_or xs k no_extent l) h)
      where
        by_tests : (x : Extent) (i : ℕ) → has_place i x ≡ true → (x.at ≤ i) × (i < x.at + x.len)
        by_tests x i t = let a = leb_tells x.at i in (grind (arith, nat_tests), grind (arith, nat_tests))

pub shares_from_ends : (es : List Extent) (at len e : ℕ) → 0 < len → All HasBytes es → e < length es → start_of es e < at + len → at < end_of es e → Shares es at len e
shares_from_ends es at len e some bytes inside begins ends =
    let has = bytes e no_extent inside in elim (leb_tells at (start_of es e)) [
      | inl x ↦ record { place = start_of es e; from = x.1; to = begins; has = found es e (start_of es e) inside (has_place-inside (extent_at es e) (start_of es e) (omega arith) (omega (arith, has.0))) }
      | inr y ↦ record { place = at; from = omega arith; to = omega (arith, some); has = found es e at inside (has_place-inside (extent_at es e) at (omega (arith, y.1)) ends) }
    ]

-- of the extents by place from `first` up to `next`, those of which there is no piece were asked for, and only such as the range wants
pub record HasAsked {R : Type 0} (es : List Extent) (pieces : List (Part R)) (index : List ℕ) (at len first next : ℕ) (old now : PassView) : Type 0 where
  pub more : List ℕ
  pub view : now ≡ record old { raised = old.raised ++ more }
  pub missed : (e : ℕ) → Contains more e → IsMissed es pieces at len e
  pub all : (k : ℕ) → first ≤ k → k < next → IsOfNone pieces (get_or index k 0) → Contains more (get_or index k 0)

none_in : (e : ℕ) → Contains [] e → ⊥
none_in e c = let h = c.1 in absurd (omega arith)

unchanged : (old : PassView) → old ≡ record old { raised = old.raised ++ [] }
unchanged old = ap (λ l. record old { raised = l }) (sym (append-nil old.raised))

module _ {R : Type 0} (es : List Extent) (pieces : List (Part R)) (index : List ℕ) (at len first : ℕ) where
  pub asked_none : (old : PassView) → HasAsked es pieces index at len first first old old
  asked_none old = record { more = []; view = unchanged old; missed = λ e c. absurd (none_in e c); all = λ k low high. absurd (omega arith) }

  -- an extent of which there is a piece
  pub asked_seen : (next : ℕ) (old now : PassView) → ¬ IsOfNone pieces (get_or index next 0) → HasAsked es pieces index at len first next old now → HasAsked es pieces index at len first (next + 1) old now
  asked_seen next old now seen ok = record {
    more = ok.more;
    view = ok.view;
    missed = ok.missed;
    all = λ k low high. below_more (λ j. first ≤ j → IsOfNone pieces (get_or index j 0) → Contains ok.more (get_or index j 0)) next (λ j l f. ok.all j f l) (λ _ none. absurd (seen none)) k high low;
  }

  -- one of which there is none
  pub asked_more : (next : ℕ) (old mid now : PassView) → IsMissed es pieces at len (get_or index next 0) → now ≡ raising mid (get_or index next 0)
      → HasAsked es pieces index at len first next old mid → HasAsked es pieces index at len first (next + 1) old now
  asked_more next old mid now wanted view ok =
      let e = get_or index next 0 in record {
        more = ok.more ++ e ∷ [];
        view = view ∙ (ap (λ (v : PassView). raising v e) ok.view ∙ ap (λ l. record old { raised = l }) (append_assoc old.raised ok.more (e ∷ [])));
        missed = λ f c. ⊎_elim (λ h. ok.missed f h) (λ (is : e ≡ f). subst (IsMissed es pieces at len) is wanted) (Contains-push_cases ok.more e f c);
        all = λ k low high. below_more (λ j. first ≤ j → IsOfNone pieces (get_or index j 0) → Contains (ok.more ++ e ∷ []) (get_or index j 0)) next
            (λ j l f none. Contains-append_left ok.more (e ∷ []) (get_or index j 0) (ok.all j f l none)) (λ _ _. Contains-push ok.more e) k high low;
      }

  -- all, where those before end by the range's begin, and those behind begin by its end
  pub asked_all : (next : ℕ) (old now : PassView) → IsIndex es index → ((k : ℕ) → k < first → end_of es (get_or index k 0) ≤ at) → ((k : ℕ) → next ≤ k → k < length index → at + len ≤ start_of es (get_or index k 0))
      → HasAsked es pieces index at len first next old now → HasRaised (IsMissed es pieces at len) old now
  asked_all next old now h before behind ok = record {
    more = ok.more;
    view = ok.view;
    each = λ e. (ok.missed e, λ m. wanted e m);
  }
    where
      wanted : (e : ℕ) → IsMissed es pieces at len e → Contains ok.more e
      wanted e m =
          let ends = shares_ends es at len e m.shares in
          let p = place_of es index h e ends.0 in
          let is : get_or index p.0 0 ≡ e = get_or_default index p.0 0 e p.1 ∙ p.2 in
          let unseen = subst (IsOfNone pieces) (sym is) m.unseen in
          let k = p.0 in elim (leb_tells first k) [
            | inl x ↦ (elim (leb_tells next k) [
              | inl y ↦ (let late : at + len ≤ start_of es e = subst (λ n. at + len ≤ start_of es n) is (behind k y.1 p.1) in absurd (omega (arith, late, ends.1)))
              | inr y ↦ subst (Contains ok.more) is (ok.all k x.1 y.1 unseen)
            ])
            | inr x ↦ (let early : end_of es e ≤ at = subst (λ n. end_of es n ≤ at) is (before k x.1) in absurd (omega (arith, early, ends.2)))
          ]

-- an empty range asks for nothing
pub asked_empty : {R : Type 0} (es : List Extent) (pieces : List (Part R)) (at len : ℕ) (old : PassView) → len ≡ 0 → HasRaised (IsMissed es pieces at len) old old
asked_empty es pieces at len old empty = record {
  more = [];
  view = unchanged old;
  each = λ e. (λ c. absurd (none_in e c), λ m. let from = m.shares.from in let to = m.shares.to in absurd (omega arith));
}

-- without pieces, what is missed is all that shares a byte
pub raised_all : {R : Type 0} (es : List Extent) (pieces : List (Part R)) (at len : ℕ) (old now : PassView) → pieces ≡ [] → HasRaised (IsMissed es pieces at len) old now → HasRaised (Shares es at len) old now
raised_all es pieces at len old now none ok = record {
  more = ok.more;
  view = ok.view;
  each = λ e. (
    (λ c. ((ok.each e).0 c).shares),
    (λ s. (ok.each e).1 record { shares = s; unseen = λ k l. let empty = ap length none in absurd (omega arith) }),
  );
}

-- the answers of a search among pieces
pub none_is : (o : Option ℕ) → is_some o ≡ false → o ≡ None
none_is None t = refl
none_is (Some q) t = absurd (cc)

pub some_is : {R : Type 0} (pieces : List (Part R)) (e : ℕ) (o : Option ℕ) → is_some o ≡ true → IfSome o (λ q. q < length pieces) → IfSome o (λ q. get_or (extents_of pieces) q 0 ≡ e) → ¬ IsOfNone pieces e
some_is pieces e None t inside is none = absurd (cc)
some_is pieces e (Some q) t inside is none = none q inside is
