-- Members of a list, by cases on the list.
use Rattle.std.proofs.Common.{◌≡◌, ℕ, zero, suc, ◌<◌, true, false, List, [], ◌∷◌, length, get_or, refl, arith, inl, inr, rules}
use Rattle.std.specs.Prelude.{◌≢◌, ◌⊎◌, Contains}
use Rattle.std.specs.Str.{bytes_eq}
use Rattle.std.proofs.lemmas.Slice.Eq.{bytes_eq-Decides}
use Rattle.aff_spec.proofs.Names.{apart_by}

pub Contains-first : {X : Type 0} (x : X) (xs : List X) → Contains (x ∷ xs) x
Contains-first x xs = (0, omega arith, refl)

pub Contains-later : {X : Type 0} (y : X) (xs : List X) (x : X) → Contains xs x → Contains (y ∷ xs) x
Contains-later y xs x c = (suc c.0, omega (arith, c.1), c.2)

member_at : {X : Type 0} (y : X) (xs : List X) (x : X) (k : ℕ) → k < length (y ∷ xs) → get_or (y ∷ xs) k x ≡ x → (y ≡ x) ⊎ Contains xs x
member_at y xs x zero below is = inl is
member_at y xs x (suc k) below is = inr (k, omega (arith, below), is)

pub Contains-cases : {X : Type 0} (y : X) (xs : List X) (x : X) → Contains (y ∷ xs) x → (y ≡ x) ⊎ Contains xs x
Contains-cases y xs x c = member_at y xs x c.0 c.1 c.2

pub Contains-none : {X : Type 0} (x : X) → Contains [] x → ⊥
Contains-none x c = omega (arith, c.1)

-- two texts are the same or not
same_text : (xs ys : List ℕ) → bytes_eq xs ys ≡ true → xs ≡ ys
same_text xs ys test = search (rules, bytes_eq-Decides)

pub alike : (xs ys : List ℕ) → (xs ≡ ys) ⊎ (xs ≢ ys)
alike xs ys =
    elim (bytes_eq xs ys) as (λ t. bytes_eq xs ys ≡ t → (xs ≡ ys) ⊎ (xs ≢ ys)) [
      | true ↦ λ e. inl (same_text xs ys e)
      | false ↦ λ e. inr (apart_by xs ys e)
    ] refl
