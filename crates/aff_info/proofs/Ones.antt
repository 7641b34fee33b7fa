-- The one statement among facts.
use Rattle.std.proofs.Common.{◌≡◌, ℕ, zero, suc, ◌+◌, ◌<◌, Bool, true, false, cond, ltb, ◌&&◌, List, [], ◌∷◌, ◌++◌, length, take, get_or, ◌≤◌, Option, Some, None, Result, Ok, refl, sym, ap, subst, ◌∙◌, arith}
use Rattle.std.specs.Prelude.{filter}
use Rattle.std.proofs.lemmas.List.Elements.{filter_more}
use Rattle.std.proofs.lemmas.List.Folds.{list_all-append}
use Rattle.std.proofs.lemmas.List.Quantifiers.{position-Some}
use Rattle.std.proofs.lemmas.Slice.Eq.{bytes_eq-Decides}
use Rattle.std.proofs.lemmas.Bool.{ltb-false}
use Rattle.std.proofs.lemmas.List.Sums.{fails_before_first}
use Rattle.std.specs.List.{list_all, position, position_or_len}
use Rattle.std.specs.Str.{bytes_eq}
use Rattle.aff_turtle.specs.Triples.{Term, Resource, Literal, Fact}
use Rattle.aff_info.specs.Table.{is_literal, same_term, same}
use lib.Seq.{take_all}
use Rattle.aff_info.specs.Statements.{One, Missing, Only, Twice, one_of, IsOne}

equal : (xs : List ℕ) → bytes_eq xs xs ≡ true
equal xs = (bytes_eq-Decides xs xs).1 refl

same_term_self : (o : Term) → same_term o o ≡ true
same_term_self (Resource iri) = equal iri
same_term_self (Literal text datatype lang) = rw (equal text, equal datatype, equal lang) refl

-- a triple says the same as itself
pub same_self : (t : Fact) → same t t ≡ true
same_self t = rw (equal t.subject, equal t.predicate, same_term_self t.object) refl

-- what passes begins with the first that passes
first_passes : (p : Fact → Bool) (xs : List Fact) (i : ℕ) (d : Fact) → i < length xs → p (get_or xs i d) ≡ true → ((k : ℕ) → k < i → p (get_or xs k d) ≡ false)
    → (rest : List Fact) × (filter p xs ≡ get_or xs i d ∷ rest)
first_passes p [] i d inside passes before = absurd (omega arith)
first_passes p (x ∷ xs) zero d inside passes before = (filter p xs, rw passes refl)
first_passes p (x ∷ xs) (suc i) d inside passes before =
    let r = first_passes p xs i d (omega arith) passes (λ k lt. before (suc k) (omega arith)) in
    let no : p x ≡ false = before 0 (omega arith) in
    (r.0, rw no r.1)

-- one that passes and differs
differs : (p q : Fact → Bool) (xs : List Fact) (k : ℕ) (d : Fact) → k < length xs → p (get_or xs k d) ≡ true → q (get_or xs k d) ≡ false → list_all q (filter p xs) ≡ false
differs p q [] k d inside passes fails = absurd (omega arith)
differs p q (x ∷ xs) zero d inside passes fails = rw (passes, fails) refl
differs p q (x ∷ xs) (suc k) d inside passes fails = by (p x) (differs p q xs k d (omega arith) passes fails)
  where
    and_false : (a b : Bool) → b ≡ false → (a && b) ≡ false
    and_false true b e = e
    and_false false b e = refl

    by : (b : Bool) → list_all q (filter p xs) ≡ false → list_all q (cond b (x ∷ filter p xs) (filter p xs)) ≡ false
    by true e = and_false (q x) (list_all q (filter p xs)) e
    by false e = e

-- up to a place, all that are statements say the same as this one
abbrev pub AllSame : (Fact → Bool) → Fact → List Fact → Type 0
AllSame test t facts = list_all (same t) (filter test facts) ≡ true

pub same_more : (test : Fact → Bool) (t x : Fact) (facts : List Fact) (i : ℕ) → i < length facts → x ≡ get_or facts i x → (test x && same t x) ≡ test x → AllSame test t (take i facts) → AllSame test t (take (i + 1) facts)
same_more test t x facts i inside is passes so_far =
    let more : filter test (take (i + 1) facts) ≡ filter test (take i facts) ++ cond (test x) (x ∷ []) [] = filter_more test facts i x inside ∙ ap (λ (y : Fact). filter test (take i facts) ++ cond (test y) (y ∷ []) []) (sym is) in
    let last : list_all (same t) (cond (test x) (x ∷ []) []) ≡ true = by (test x) passes in
    rw (more, list_all-append (same t) (filter test (take i facts)) (cond (test x) (x ∷ []) []), so_far) last
  where
    by : (b : Bool) → (b && same t x) ≡ b → list_all (same t) (cond b (x ∷ []) []) ≡ true
    by true e = rw e refl
    by false e = refl

pub is_only : (test : Fact → Bool) (facts : List Fact) (i : ℕ) (d : Fact) → position test facts ≡ Some i → AllSame test (get_or facts i d) facts → one_of (filter test facts) ≡ Only (get_or facts i d)
is_only test facts i d at all =
    let k = position-Some test facts i d at in
    let r = first_passes test facts i d k.0 k.1 k.2 in
    let same_all : list_all (same (get_or facts i d)) (get_or facts i d ∷ r.0) ≡ true = ap (list_all (same (get_or facts i d))) (sym r.1) ∙ all in
    ap one_of r.1 ∙ rw same_all refl

pub is_twice : (test : Fact → Bool) (facts : List Fact) (i k : ℕ) (d x : Fact) → position test facts ≡ Some i → k < length facts → x ≡ get_or facts k x → test x ≡ true → same (get_or facts i d) x ≡ false → one_of (filter test facts) ≡ Twice
is_twice test facts i k d x at inside is passes fails =
    let p = position-Some test facts i d at in
    let r = first_passes test facts i d p.0 p.1 p.2 in
    let here : test (get_or facts k x) ≡ true = ap test (sym is) ∙ passes in
    let there : same (get_or facts i d) (get_or facts k x) ≡ false = ap (same (get_or facts i d)) (sym is) ∙ fails in
    let not_all : list_all (same (get_or facts i d)) (get_or facts i d ∷ r.0) ≡ false = ap (list_all (same (get_or facts i d))) (sym r.1) ∙ differs test (same (get_or facts i d)) facts k x inside here there in
    ap one_of r.1 ∙ rw not_all refl

all_fail : (p : Fact → Bool) (xs : List Fact) → ((k : ℕ) (d : Fact) → k < length xs → p (get_or xs k d) ≡ false) → filter p xs ≡ []
all_fail p [] h = refl
all_fail p (x ∷ xs) h = let no : p x ≡ false = h 0 x (omega arith) in rw no (all_fail p xs (λ k d lt. h (suc k) d (omega arith)))

no_place : (b : Bool) (n : ℕ) → cond b (Some n) None ≡ None → b ≡ false
no_place true n h = absurd cc
no_place false n h = refl

none_passes : (p : Fact → Bool) (xs : List Fact) → position p xs ≡ None → filter p xs ≡ []
none_passes p xs h =
    let past = ltb-false (position_or_len p xs) (length xs) (no_place (ltb (position_or_len p xs) (length xs)) (position_or_len p xs) h) in
    all_fail p xs (λ k d lt. fails_before_first p xs k d (omega (arith, past)))

pub is_missing : (test : Fact → Bool) (facts : List Fact) → position test facts ≡ None → one_of (filter test facts) ≡ Missing
is_missing test facts h = ap one_of (none_passes test facts h)

some_fact : Fact
some_fact = record { subject = []; predicate = []; object = Resource [] }

-- a statement that all others equal, at its place
pub is_one : (test : Fact → Bool) (facts : List Fact) (i n : ℕ) → position test facts ≡ Some i → length facts ≤ n → ((d : Fact) → AllSame test (get_or facts i d) (take n facts)) → IsOne test facts (Ok i)
is_one test facts i n at past all =
    (at, (position-Some test facts i some_fact at).0, λ d. is_only test facts i d at (subst (AllSame test (get_or facts i d)) (take_all n facts past) (all d)))
