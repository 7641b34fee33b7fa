-- Lists of segments that are sorted by name.
use Rattle.std.proofs.Common.{◌≡◌, ℕ, zero, suc, ◌+◌, ◌-◌, ◌<◌, ◌≤◌, ◌⊎◌, inl, inr, List, [], ◌∷◌, length, get_or, true, false, cond, ◌&&◌, refl, sym, ap, subst, ◌∙◌, arith}
use Rattle.std.proofs.lemmas.List.{get_or_default}
use Rattle.std.proofs.lemmas.Bool.{and_parts}
use Rattle.std.specs.Prelude.{Some, None}
use Rattle.std.specs.Ordering.{nat_cmp, is_lt, is_eq, ordering_reverse}
use Rattle.std.specs.declared.cmp.Ordering.{Ordering}
use Rattle.std.specs.declared.cmp.Ordering.TheVariants.{Less, Equal, Greater}
use Rattle.std.specs.Cmp.Lexicographic.{slice_cmp, nat_list_cmp_total}
use Rattle.std.specs.FinMap.{find, is_sorted}
use Rattle.std.specs.FinMap.Entries.{below_all}
use Rattle.aff_bevvy.specs.Segments.{AreSorted}

abbrev order : List ℕ → List ℕ → Ordering
order = slice_cmp nat_cmp

-- ---- names that rise

less : (o : Ordering) → is_lt o ≡ true → o ≡ Less
less Less h = refl
less Equal h = absurd cc
less Greater h = absurd cc

below : (x : List ℕ) (es : List (List ℕ × ℕ)) → below_all order x es ≡ true → (k : ℕ) (d : List ℕ × ℕ) → k < length es → order x (get_or es k d).0 ≡ Less
below x [] h k d there = absurd (omega (arith, there))
below x (e ∷ es) h zero d there = less _ (and_parts (is_lt (order x e.0)) (below_all order x es) h).0
below x (e ∷ es) h (suc k) d there = below x es (and_parts (is_lt (order x e.0)) (below_all order x es) h).1 k d (omega (arith, there))

pub rises : (es : List (List ℕ × ℕ)) → AreSorted es → (j k : ℕ) (d : List ℕ × ℕ) → j < k → k < length es → order (get_or es j d).0 (get_or es k d).0 ≡ Less
rises [] h j k d low there = absurd (omega (arith, there))
rises (e ∷ es) h j zero d low there = absurd (omega (arith, low))
rises (e ∷ es) h zero (suc k) d low there = below e.0 es (and_parts (below_all order e.0 es) (is_sorted order es) h).0 k d (omega (arith, there))
rises (e ∷ es) h (suc j) (suc k) d low there = rises es (and_parts (below_all order e.0 es) (is_sorted order es) h).1 j k d (omega (arith, low)) (omega (arith, there))

-- a name that comes before one comes before all that come behind that
below_more : (a b : List ℕ) (es : List (List ℕ × ℕ)) → order a b ≡ Less → below_all order b es ≡ true → below_all order a es ≡ true
below_more a b [] first h = refl
below_more a b (e ∷ es) first h =
    let parts = and_parts (is_lt (order b e.0)) (below_all order b es) h in
    ap (λ o. is_lt o && below_all order a es) (nat_list_cmp_total.trans a b e.0 first (less _ parts.0)) ∙ below_more a b es first parts.1

-- the first names rise: each of so many comes before the next one
abbrev pub DoRise : List (List ℕ × ℕ) → ℕ → Type 0
DoRise es count = (k : ℕ) (d : List ℕ × ℕ) → suc k < count → order (get_or es k d).0 (get_or es (suc k) d).0 ≡ Less

-- before the last place, or at it
split_last : (k place : ℕ) → suc k < place + 1 → (suc k < place) ⊎ (suc k ≡ place)
split_last k place h = grind (arith, h)

-- one more comes behind the last of them
pub one_rises_more : (es : List (List ℕ × ℕ)) (place : ℕ) (a b : List ℕ × ℕ) → 1 ≤ place → place < length es → a ≡ get_or es (place - 1) a → b ≡ get_or es place b → order a.0 b.0 ≡ Less
    → DoRise es place → DoRise es (place + 1)
one_rises_more es place a b low there a_is b_is is rise k d inside = elim (split_last k place inside) [
  | inl before ↦ rise k d before
  | inr last ↦
      ap (λ (x : List ℕ × ℕ). order x.0 (get_or es (suc k) d).0) (ap (λ j. get_or es j d) (omega (arith, last, low)) ∙ get_or_default es (place - 1) d a (omega (arith, low, there)) ∙ sym a_is)
      ∙ ap (λ (x : List ℕ × ℕ). order a.0 x.0) (ap (λ j. get_or es j d) last ∙ get_or_default es place d b there ∙ sym b_is)
      ∙ is
]

-- where each name comes before the next one, the names rise
pub rising : (es : List (List ℕ × ℕ)) → DoRise es (length es) → AreSorted es
rising [] h = refl
rising (e ∷ []) h = refl
rising (e ∷ x ∷ es) h =
    let first = h 0 e (omega arith) in
    let rest : AreSorted (x ∷ es) = rising (x ∷ es) (λ k d there. h (suc k) d (omega (arith, there))) in
    ap (λ o. (is_lt o && below_all order e.0 es) && is_sorted order (x ∷ es)) first
    ∙ ap (λ b. b && is_sorted order (x ∷ es)) (below_more e.0 x.0 es first (and_parts (below_all order x.0 es) (is_sorted order es) rest).0)
    ∙ rest

-- ---- halving

-- the names before a place come before a name, and those from another place on come behind it
pub record IsBetween (es : List (List ℕ × ℕ)) (name : List ℕ) (low high : ℕ) : Type 0 where
  pub before : (k : ℕ) (d : List ℕ × ℕ) → k < low → k < length es → order name (get_or es k d).0 ≡ Greater
  pub behind : (k : ℕ) (d : List ℕ × ℕ) → high ≤ k → k < length es → order name (get_or es k d).0 ≡ Less

pub between_all : (es : List (List ℕ × ℕ)) (name : List ℕ) (high : ℕ) → length es ≤ high → IsBetween es name 0 high
between_all es name high all = record {
  before = λ k d low there. absurd (omega (arith, low));
  behind = λ k d low there. absurd (omega (arith, low, there, all));
}

turned : (o : Ordering) → ordering_reverse o ≡ Less → o ≡ Greater
turned Less h = absurd cc
turned Equal h = absurd cc
turned Greater h = refl

reversed_less : (x y : List ℕ) → order x y ≡ Less → order y x ≡ Greater
reversed_less x y h = nat_list_cmp_total.antisymm y x ∙ ap ordering_reverse h

reversed_greater : (x y : List ℕ) → order x y ≡ Greater → order y x ≡ Less
reversed_greater x y h = nat_list_cmp_total.antisymm y x ∙ ap ordering_reverse h

module _ (es : List (List ℕ × ℕ)) (name : List ℕ) (m : ℕ) (e : List ℕ × ℕ) (there : m < length es) (at : e ≡ get_or es m e) where
  own : (r : Ordering) → order name e.0 ≡ r → (d : List ℕ × ℕ) → order name (get_or es m d).0 ≡ r
  own r is d = ap (λ (x : List ℕ × ℕ). order name x.0) (get_or_default es m d e there ∙ sym at) ∙ is

  split : (k : ℕ) → k < m + 1 → (k ≡ m) ⊎ (k < m)
  split k h = grind (arith, h)

  from : (k : ℕ) → m ≤ k → (k ≡ m) ⊎ (m < k)
  from k h = grind (arith, h)

  right : (sorted : AreSorted es) (low high : ℕ) → order name e.0 ≡ Greater → IsBetween es name low high → IsBetween es name (m + 1) high
  right sorted low high is old = record {
    before = λ k d below inside. elim (split k below) [
      | inl same ↦ subst (λ j. order name (get_or es j d).0 ≡ Greater) (sym same) (own Greater is d)
      | inr less ↦ reversed_less (get_or es k d).0 name (nat_list_cmp_total.trans (get_or es k d).0 (get_or es m d).0 name (rises es sorted k m d less there) (reversed_greater name (get_or es m d).0 (own Greater is d)))
    ];
    behind = old.behind;
  }

  left : (sorted : AreSorted es) (low high : ℕ) → order name e.0 ≡ Less → IsBetween es name low high → IsBetween es name low m
  left sorted low high is old = record {
    before = old.before;
    behind = λ k d below inside. elim (from k below) [
      | inl same ↦ subst (λ j. order name (get_or es j d).0 ≡ Less) (sym same) (own Less is d)
      | inr more ↦ nat_list_cmp_total.trans name (get_or es m d).0 (get_or es k d).0 (own Less is d) (rises es sorted m k d more inside)
    ];
  }

  pub between_right : (low high now_low now_high : ℕ) → order name e.0 ≡ Greater → now_low ≡ m + 1 → now_high ≡ high → (AreSorted es → IsBetween es name low high) → AreSorted es → IsBetween es name now_low now_high
  between_right low high now_low now_high is at_low at_high old sorted = subst (λ k. IsBetween es name k now_high) (sym at_low) (subst (IsBetween es name (m + 1)) (sym at_high) (right sorted low high is (old sorted)))

  pub between_left : (low high now_low now_high : ℕ) → order name e.0 ≡ Less → now_low ≡ low → now_high ≡ m → (AreSorted es → IsBetween es name low high) → AreSorted es → IsBetween es name now_low now_high
  between_left low high now_low now_high is at_low at_high old sorted = subst (λ k. IsBetween es name k now_high) (sym at_low) (subst (IsBetween es name low) (sym at_high) (left sorted low high is (old sorted)))

-- a name that no segment has
missing : (es : List (List ℕ × ℕ)) (name : List ℕ) → ((k : ℕ) (d : List ℕ × ℕ) → k < length es → is_eq (order name (get_or es k d).0) ≡ false) → find order name es ≡ None
missing [] name h = refl
missing (e ∷ es) name h =
    ap (λ b. cond b (Some e.1) (find order name es)) (h 0 e (omega arith)) ∙ missing es name (λ k d there. h (suc k) d (omega (arith, there)))

pub not_listed : (es : List (List ℕ × ℕ)) (name : List ℕ) (low high : ℕ) → high ≤ low → IsBetween es name low high → find order name es ≡ None
not_listed es name low high done is = missing es name (λ k d there. elim (side k) [
  | inl below ↦ ap is_eq (is.before k d below there)
  | inr above ↦ ap is_eq (is.behind k d above there)
])
  where
    side : (k : ℕ) → (k < low) ⊎ (high ≤ k)
    side k = grind (arith, done)

-- the one segment that has it
found : (es : List (List ℕ × ℕ)) → AreSorted es → (name : List ℕ) (m : ℕ) (d : List ℕ × ℕ) → m < length es → order name (get_or es m d).0 ≡ Equal → find order name es ≡ Some (get_or es m d).1
found [] sorted name m d there is = absurd (omega (arith, there))
found (e ∷ es) sorted name zero d there is = ap (λ o. cond (is_eq o) (Some e.1) (find order name es)) is
found (e ∷ es) sorted name (suc m) d there is =
    let parts = and_parts (below_all order e.0 es) (is_sorted order es) sorted in
    let first : order name e.0 ≡ Greater = reversed_less e.0 name (sym (flipped e.0 name (get_or es m d).0 is) ∙ below e.0 es parts.0 m d (omega (arith, there))) in
    ap (λ o. cond (is_eq o) (Some e.1) (find order name es)) first ∙ found es parts.1 name m d (omega (arith, there)) is
  where
    -- what a name stands to, a name that ties with it stands to
    flipped : (x y z : List ℕ) → order y z ≡ Equal → order x z ≡ order x y
    flipped x y z tie =
        nat_list_cmp_total.antisymm x z ∙ ap ordering_reverse (sym (nat_list_cmp_total.congr y z x tie)) ∙ sym (nat_list_cmp_total.antisymm x y)

pub is_listed : (es : List (List ℕ × ℕ)) → AreSorted es → (name : List ℕ) (m : ℕ) (e : List ℕ × ℕ) → m < length es → e ≡ get_or es m e → order name e.0 ≡ Equal → find order name es ≡ Some e.1
is_listed es sorted name m e there at is =
    found es sorted name m e there (ap (λ (x : List ℕ × ℕ). order name x.0) (sym at) ∙ is) ∙ ap (λ (x : List ℕ × ℕ). Some x.1) (sym at)
