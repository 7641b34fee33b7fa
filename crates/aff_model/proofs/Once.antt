-- Histories in which each extent stands once, as in every legal one: a second reading would show only where there is one.
use Rattle.std.proofs.Common.{true, false, true≢false, Bool, subst, append-nil, append_assoc, ◌≡◌, ℕ, zero, suc, ◌<◌, ◌==◌, ◌||◌, nat_eq, List, [], ◌∷◌, ◌++◌, length, get_or, take, map, filter, refl, sym, ap, ◌∙◌, arith}
use Rattle.std.specs.Prelude.{All, Contains, IsTrue, Some, slice_get, if◌then◌else◌}
use Rattle.std.specs.List.{list_any, IsDistinct, AllByRecursion}
use Rattle.std.proofs.lemmas.List.Elements.{All-cons, All-head, All-tail, filter-append}
use Rattle.std.proofs.lemmas.List.{get_or-map, get_or-take, length-take-le, take-map}
use Rattle.std.proofs.lemmas.List.{length-map}
use Rattle.std.proofs.lemmas.Option.{none-some, same_Some, slice_get-get_or}
use Rattle.std.proofs.lemmas.Map.Keys.{IsDistinct-cons, IsDistinct-from_apart, IsDistinct-head, IsDistinct-tail}
use Rattle.aff_model.specs.History.{Published, readings_of, last_ones, fresh_by, fresh_from, fresh_ones}
use Rattle.std.proofs.lemmas.Bool.Decides.{Decides-eqb}
use Rattle.aff_model.specs.Legal.{MayFollow, AreReadings, are_done}

abbrev pub extents_of : List Published → List ℕ
extents_of history = map (λ p. p.extent) history

-- each extent once
abbrev pub AreOnce : List Published → Type 0
AreOnce history = IsDistinct nat_eq (extents_of history)

turned : (x y : ℕ) → nat_eq x y ≡ false → nat_eq y x ≡ false
turned x y h = grind (arith, h)

none_of : (x : ℕ) (history : List Published) → AllByRecursion (λ y. nat_eq x y ≡ false) (extents_of history) → list_any (λ q. q.extent == x) history ≡ false
none_of x [] a = refl
none_of x (q ∷ history) a = ap (λ b. b || list_any (λ q. q.extent == x) history) (turned x q.extent a.0) ∙ none_of x history a.1

-- the last publication of each extent are all of them
pub last_ones-once : (history : List Published) → AreOnce history → last_ones history ≡ history
last_ones-once [] d = refl
last_ones-once (p ∷ history) d =
    ap (λ b. if b then last_ones history else p ∷ last_ones history) (none_of p.extent history (IsDistinct-head nat_eq p.extent (extents_of history) d))
    ∙ ap (λ v. p ∷ v) (last_ones-once history (IsDistinct-tail nat_eq p.extent (extents_of history) d))

first_not : (a b : Bool) → (a || b) ≡ false → a ≡ false
first_not true b h = h
first_not false b h = refl

second_not : (a b : Bool) → (a || b) ≡ false → b ≡ false
second_not true b h = absurd (true≢false h)
second_not false b h = h

IsDistinct-none : IsDistinct nat_eq []
unfolding IsDistinct
IsDistinct-none = tt

-- none of these extents was read before
abbrev AreNew : List Published → List Published → Type 0
AreNew before history = AllByRecursion (λ p. readings_of before p.extent ≡ []) history

new_behind : (x : ℕ) (before history : List Published) (p : Published) → p.extent ≡ x → AllByRecursion (λ y. nat_eq x y ≡ false) (extents_of history) → AreNew before history → AreNew (before ++ p ∷ []) history
new_behind x before [] p is a new = tt
new_behind x before (q ∷ history) p is a new =
    (filter-append (λ r. r.extent == q.extent) before (p ∷ []) ∙ ap (λ v. v ++ filter (λ r. r.extent == q.extent) (p ∷ [])) new.0 ∙ other, new_behind x before history p is a.1 new.1)
  where
    other : filter (λ r. r.extent == q.extent) (p ∷ []) ≡ []
    other = ap (λ b. if b then p ∷ [] else []) (ap (λ n. nat_eq n q.extent) is ∙ a.0)

fresh_from-once : (before history : List Published) → AreOnce history → AreNew before history → fresh_from before history ≡ history
fresh_from-once before [] d new = refl
fresh_from-once before (p ∷ history) d new =
    ap (λ r. fresh_by r p ∷ fresh_from (before ++ p ∷ []) history) new.0
    ∙ ap (λ v. p ∷ v) (fresh_from-once (before ++ p ∷ []) history (IsDistinct-tail nat_eq p.extent (extents_of history) d)
    (new_behind p.extent before history p refl (IsDistinct-head nat_eq p.extent (extents_of history) d) new.1))

new_at_first : (history : List Published) → AreNew [] history
new_at_first [] = tt
new_at_first (p ∷ history) = (refl, new_at_first history)

-- each publication is new
pub fresh_ones-once : (history : List Published) → AreOnce history → fresh_ones history ≡ history
fresh_ones-once history d = fresh_from-once [] history d (new_at_first history)

-- each publication may follow those before it
reads_from : (before history : List Published) → AreOnce history → AreNew before history
    → (k : ℕ) (p : Published) → slice_get history k ≡ Some p → readings_of (before ++ take k history) p.extent ≡ []
reads_from before [] d new k p at = absurd (none-some p at)
reads_from before (q ∷ history) d new zero p at = ap (λ v. readings_of v p.extent) (append-nil before) ∙ ap (λ r. readings_of before r.extent) (sym (same_Some q p at)) ∙ new.0
reads_from before (q ∷ history) d new (suc k) p at =
    ap (λ v. readings_of v p.extent) (sym (append_assoc before (q ∷ []) (take k history)))
    ∙ reads_from (before ++ q ∷ []) history (IsDistinct-tail nat_eq q.extent (extents_of history) d)
    (new_behind q.extent before history q refl (IsDistinct-head nat_eq q.extent (extents_of history) d) new.1) k p at

pub AreReadings-once : (history : List Published) → AreOnce history → AreReadings history
AreReadings-once history d k p at = subst (λ r. MayFollow r p) (sym (reads_from [] history d (new_at_first history) k p at)) tt

step : (x : ℕ) (q : Published) (lasts : List Published) → nat_eq x q.extent ≡ false → AllByRecursion (λ y. nat_eq x y ≡ false) (extents_of lasts) → (b : Bool)
    → AllByRecursion (λ y. nat_eq x y ≡ false) (extents_of (if b then lasts else q ∷ lasts))
step x q lasts here rest true = rest
step x q lasts here rest false = (here, rest)

-- what a later list lacks, its last ones lack
last_ones-none : (x : ℕ) (history : List Published) → list_any (λ q. q.extent == x) history ≡ false → AllByRecursion (λ y. nat_eq x y ≡ false) (extents_of (last_ones history))
last_ones-none x [] none = tt
last_ones-none x (q ∷ history) none =
    step x q (last_ones history) (turned q.extent x (first_not (nat_eq q.extent x) (list_any (λ r. r.extent == x) history) none))
    (last_ones-none x history (second_not (nat_eq q.extent x) (list_any (λ r. r.extent == x) history) none)) (list_any (λ r. r.extent == q.extent) history)

one_more : (p : Published) (history : List Published) → AreOnce (last_ones history) → (b : Bool) → list_any (λ q. q.extent == p.extent) history ≡ b
    → AreOnce (if b then last_ones history else p ∷ last_ones history)
one_more p history d true is = d
one_more p history d false is = IsDistinct-cons nat_eq p.extent (extents_of (last_ones history)) (last_ones-none p.extent history is) d

-- the last ones are of distinct extents, whatever the history
pub last_ones-distinct : (history : List Published) → AreOnce (last_ones history)
last_ones-distinct [] = IsDistinct-none
last_ones-distinct (p ∷ history) = one_more p history (last_ones-distinct history) (list_any (λ q. q.extent == p.extent) history) refl

-- what holds of each publication holds of the last ones
one_more_all : (P : Published → Type 0) (p : Published) (lasts : List Published) → P p → All P lasts → (b : Bool) → All P (if b then lasts else p ∷ lasts)
one_more_all P p lasts here rest true = rest
one_more_all P p lasts here rest false = All-cons P p lasts here rest

pub last_ones-all : (P : Published → Type 0) (history : List Published) → All P history → All P (last_ones history)
last_ones-all P [] all = all
last_ones-all P (p ∷ history) all =
    one_more_all P p (last_ones history) (All-head P p history all) (last_ones-all P history (All-tail P p history all)) (list_any (λ q. q.extent == p.extent) history)

tail_none : (b : Bool) (q : Published) (r : List Published) → (if b then q ∷ r else r) ≡ [] → r ≡ []
tail_none true q r none = absurd (cc none)
tail_none false q r none = none

head_some : (b : Bool) (q : Published) (r : List Published) → b ≡ true → (if b then q ∷ r else r) ≡ [] → ⊥
head_some true q r is none = cc none
head_some false q r is none = true≢false (sym is)

-- an extent that stands in a history has a reading there
has_reading : (history : List Published) (i d e : ℕ) → i < length history → nat_eq (get_or (extents_of history) i d) e ≡ true → readings_of history e ≡ [] → ⊥
has_reading [] i d e l same none = absurd (omega arith)
has_reading (q ∷ history) zero d e l same none = head_some (q.extent == e) q (readings_of history e) same none
has_reading (q ∷ history) (suc i) d e l same none = has_reading history i d e (omega arith) same (tail_none (q.extent == e) q (readings_of history e) none)

no_publication : Published
no_publication = record { extent = 0; claimant = 0; swept = false; bad = []; places = [] }

none_before : (readings : List Published) (p : Published) → MayFollow readings p → readings ≡ []
none_before [] p may = refl
none_before (first ∷ readings) p may = absurd may

not_true : (b : Bool) → (b ≡ true → ⊥) → b ≡ false
not_true true h = absurd (h refl)
not_true false h = refl

-- where each publication may follow those before it, each extent stands once
pub once-from_readings : (history : List Published) → AreReadings history → AreOnce history
once-from_readings history h = IsDistinct-from_apart nat_eq (extents_of history) (λ i j d l b. apart i j d l b)
  where
    apart : (i j d : ℕ) → i < j → j < length (extents_of history) → nat_eq (get_or (extents_of history) i d) (get_or (extents_of history) j d) ≡ false
    apart i j d l b = not_true _ (λ same.
        let inside : j < length history = omega (arith, length-map history (λ q. q.extent)) in
        let p = get_or history j no_publication in
        let at : get_or (extents_of history) j d ≡ p.extent = get_or-map (λ q. q.extent) history j no_publication d inside in
        let long : length (take j history) ≡ j = length-take-le j history (omega arith) in
        let first : get_or (extents_of (take j history)) i d ≡ get_or (extents_of history) i d =
        ap (λ v. get_or v i d) (sym (take-map (λ q. q.extent) j history)) ∙ get_or-take j (extents_of history) i d l in
        has_reading (take j history) i d p.extent (omega arith)
        (ap (λ n. nat_eq n p.extent) first ∙ ap (λ n. nat_eq (get_or (extents_of history) i d) n) (sym at) ∙ same)
        (none_before _ p (h j p (slice_get-get_or history j no_publication inside))))

done-some : (readings : List Published) → (readings ≡ [] → ⊥) → IsTrue (are_done readings)
done-some [] some = absurd (some refl)
done-some (first ∷ readings) some = refl

-- the readings of an extent are done where it stands in the history
pub done-from_contains : (history : List Published) (e : ℕ) → Contains (extents_of history) e → IsTrue (are_done (readings_of history e))
done-from_contains history e there =
    done-some (readings_of history e) (λ none. has_reading history there.0 e e (omega (arith, there.1, length-map history (λ q. q.extent))) ((Decides-eqb (get_or (extents_of history) there.0 e) e).1 there.2) none)

stands : (q : Published) (history : List Published) (e : ℕ) (b : Bool) → nat_eq q.extent e ≡ b → IsTrue (are_done (if b then q ∷ readings_of history e else readings_of history e))
    → (IsTrue (are_done (readings_of history e)) → Contains (extents_of history) e) → Contains (extents_of (q ∷ history)) e
stands q history e true same is later = (0, omega arith, (Decides-eqb q.extent e).0 same)
stands q history e false same is later = let there = later is in (suc there.0, omega (arith, there.1), there.2)

pub contains-from_done : (history : List Published) (e : ℕ) → IsTrue (are_done (readings_of history e)) → Contains (extents_of history) e
contains-from_done [] e is = absurd (true≢false (sym is))
contains-from_done (q ∷ history) e is = stands q history e (nat_eq q.extent e) refl is (contains-from_done history e)
