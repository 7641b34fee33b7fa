-- Looking places up in sorted entries.
use Rattle.std.proofs.Common.{◌≡◌, ℕ, zero, suc, ◌+◌, ◌<◌, ◌≤◌, ◌⊎◌, inl, inr, Bool, true, false, cond, List, [], ◌∷◌, length, get_or, refl, sym, ap, ◌∙◌, subst, arith}
use Rattle.std.specs.Prelude.{Some, None, find, All}
use Rattle.std.specs.Option.{option_map}
use Rattle.std.proofs.lemmas.Bool.{and_parts}
use Rattle.std.proofs.lemmas.Bool.Decides.{nat_tests}
use Rattle.std.specs.Prelude.{nat_le, nat_lt}
use Rattle.aff_fields.specs.declared.entry.Entry.{Entry}
use Rattle.aff_spec.specs.Runs.{covers, lookup, spot_in}

-- the first element that passes
pub find_first : {X : Type 0} (p : X → Bool) (xs : List X) (k : ℕ) (d : X) → k < length xs → ((j : ℕ) → j < k → p (get_or xs j d) ≡ false) → p (get_or xs k d) ≡ true
    → find p xs ≡ Some (get_or xs k d)
find_first p [] k d below before passes = absurd (omega (arith, below))
find_first p (x ∷ xs) zero d below before passes = ap (λ b. cond b (Some x) (find p xs)) passes
find_first p (x ∷ xs) (suc k) d below before passes =
    ap (λ b. cond b (Some x) (find p xs)) (before 0 (omega arith))
    ∙ find_first p xs k d (omega (arith, below)) (λ j low. before (suc j) (omega (arith, low))) passes

-- none passes
pub find_nothing : {X : Type 0} (p : X → Bool) (xs : List X) → All (λ x. p x ≡ false) xs → find p xs ≡ None
find_nothing p [] none = refl
find_nothing p (x ∷ xs) none =
    ap (λ b. cond b (Some x) (find p xs)) (none 0 x (omega arith)) ∙ find_nothing p xs (λ k d below. none (suc k) d (omega (arith, below)))

-- what is found passes, and what holds of all holds of it
pub found_passes : {X : Type 0} (P : X → Type 0) (p : X → Bool) (xs : List X) (x : X) → All P xs → find p xs ≡ Some x → P x × (p x ≡ true)
found_passes P p [] x all is = absurd (cc)
found_passes P p (y ∷ xs) x all is =
    elim (p y) as (λ b. p y ≡ b → cond b (Some y) (find p xs) ≡ Some x → P x × (p x ≡ true)) [
      | true ↦ λ passes same.
          let e : y ≡ x = cc in
          (subst P e (all 0 y (omega arith)), ap p (sym e) ∙ passes)
      | false ↦ λ fails rest. found_passes P p xs x (λ k d below. all (suc k) d (omega (arith, below))) rest
    ] refl is

pub covers_before : (i : ℕ) (e : Entry) → i < e.at → covers i e ≡ false
covers_before i e h = grind (arith, nat_tests)

pub covers_after : (i : ℕ) (e : Entry) → e.at + e.len ≤ i → covers i e ≡ false
covers_after i e h = grind (arith, nat_tests)

pub covers_within : (i : ℕ) (e : Entry) → e.at ≤ i → i < e.at + e.len → covers i e ≡ true
covers_within i e h k = grind (arith, nat_tests)

pub covered_from : (i : ℕ) (e : Entry) → covers i e ≡ true → e.at ≤ i
covered_from i e h = let parts = and_parts (nat_le e.at i) (nat_lt i (e.at + e.len)) h in grind (arith, parts.0)

-- each entry ends where the next one begins or before
abbrev pub AreSorted : List Entry → Type 0
AreSorted entries = (k : ℕ) (d : Entry) → k + 1 < length entries → (get_or entries k d).at + (get_or entries k d).len ≤ (get_or entries (k + 1) d).at

module _ (entries : List Entry) (sorted : AreSorted entries) (d : Entry) where
  -- each entry ends before all later ones begin
  pub ends_before : (j k : ℕ) → j < k → k < length entries → (get_or entries j d).at + (get_or entries j d).len ≤ (get_or entries k d).at
  ends_before j zero before below = absurd (omega (arith, before))
  ends_before j (suc k) before below =
      let one : k + 1 ≡ suc k = omega arith in
      let next : (get_or entries k d).at + (get_or entries k d).len ≤ (get_or entries (suc k) d).at =
      subst (λ n. (get_or entries k d).at + (get_or entries k d).len ≤ (get_or entries n d).at) one (sorted k d (omega (arith, below))) in
      elim (split j k before) [
        | inl e ↦ subst (λ n. (get_or entries n d).at + (get_or entries n d).len ≤ (get_or entries (suc k) d).at) (sym e) next
        | inr low ↦ omega (arith, ends_before j k low (omega (arith, below)), next)
      ]
    where
      split : (j k : ℕ) → j < suc k → (j ≡ k) ⊎ (j < k)
      split j k low = grind (arith, low)

  -- a place in an entry
  pub find_covering : (i k : ℕ) → k < length entries → (get_or entries k d).at ≤ i → i < (get_or entries k d).at + (get_or entries k d).len → find (covers i) entries ≡ Some (get_or entries k d)
  find_covering i k below from to =
      find_first (covers i) entries k d below (λ j low. covers_after i (get_or entries j d) (omega (arith, ends_before j k low below, from))) (covers_within i (get_or entries k d) from to)

  pub lookup_covering : (i k : ℕ) → k < length entries → (get_or entries k d).at ≤ i → i < (get_or entries k d).at + (get_or entries k d).len → lookup entries i ≡ Some (spot_in i (get_or entries k d))
  lookup_covering i k below from to = ap (option_map (spot_in i)) (find_covering i k below from to)
