-- Lists of seats and of extents.
use Rattle.std.proofs.Common.{◌≡◌, ◌≢◌, ◌⊎◌, ℕ, zero, suc, ◌+◌, ◌<◌, List, [], ◌∷◌, ◌++◌, length, get_or, set, replicate, refl, sym, ap, subst, inl, inr, ⊎_elim, arith, Contains, below_more, ◌∙◌}
use Rattle.std.proofs.lemmas.List.{get_or_append_left, get_or_push}
use mathlib.Core.Option.{some, some-injective, some-ne-none}
use lib.ListN.{get_elem?}
use Rattle.atomic_table.proofs.Lists.{at_set}
use Rattle.std.proofs.lemmas.List.Elements.{Contains-get_or}
use Rattle.std.proofs.lemmas.List.Quantifiers.{all_pairs_push}
use Rattle.aff_claim.specs.Rule.{IsOnce}

module _ {A : Type 0} where
  pub none_in : (x : A) → Contains [] x → ⊥
  none_in x c = let h = c.1 in absurd (omega arith)

  -- what holds of each seat but one, and of what that one becomes
  pub seats_stay : (K : ℕ → A → Type 0) (views : List A) (me : ℕ) (w : A) → K me w → ((j : ℕ) (d : A) → j ≢ me → get_elem? views j ≡ some d → K j d)
      → (j : ℕ) (d : A) → get_elem? (set views me w) j ≡ some d → K j d
  seats_stay K views me w mine others j d e = ⊎_elim (λ (t : (j ≡ me) × (w ≡ d)). subst (λ (x : ℕ × A). K x.0 x.1) (λ i. (sym t.0 i, t.1 i)) mine)
      (λ (t : (j ≢ me) × (get_elem? views j ≡ some d)). others j d t.0 t.1) (at_set views me j w d e)

  -- the elements of a list with one more
  pub at_push : (l : List A) (a b : A) (j : ℕ) → get_elem? (l ++ a ∷ []) j ≡ some b → (get_elem? l j ≡ some b) ⊎ ((j ≡ length l) × (a ≡ b))
  at_push [] a b zero e = inr (refl, some-injective a b e)
  at_push [] a b (suc j) e = absurd (some-ne-none b (sym e))
  at_push (x ∷ xs) a b zero e = inl e
  at_push (x ∷ xs) a b (suc j) e = ⊎_elim (λ t. inl t) (λ t. inr (ap suc t.0, t.1)) (at_push xs a b j e)

pub once_push : (xs : List ℕ) (y : ℕ) → IsOnce xs → ¬ Contains xs y → IsOnce (xs ++ y ∷ [])
once_push xs y once new = all_pairs_push (λ x z. x ≢ z) xs y once (λ k d l same. new (subst (λ z. Contains xs z) same (Contains-get_or xs k d l)))

pub once_none : IsOnce []
once_none = λ i j d l m. absurd (omega arith)

abbrev pub free_words : ℕ → List ℕ
free_words m = replicate m 0

pub zeros : (m i : ℕ) → get_or (free_words m) i 0 ≡ 0
zeros zero i = refl
zeros (suc m) zero = refl
zeros (suc m) (suc i) = zeros m i

-- an element by its place
pub read_at : (xs : List ℕ) (i a : ℕ) → get_elem? xs i ≡ some a → get_or xs i 0 ≡ a
read_at [] i a e = absurd (some-ne-none a (sym e))
read_at (x ∷ xs) zero a e = some-injective x a e
read_at (x ∷ xs) (suc i) a e = read_at xs i a e

-- one element more that a function of the place gives
pub more_by_place : {A : Type 0} (f : ℕ → A) (xs : List A) (y d : A) (n : ℕ) → length xs ≡ n → ((i : ℕ) → i < n → get_or xs i d ≡ f i) → y ≡ f n
    → (i : ℕ) → i < n + 1 → get_or (xs ++ y ∷ []) i d ≡ f i
more_by_place f xs y d n count before is = below_more (λ i. get_or (xs ++ y ∷ []) i d ≡ f i) n
    (λ i l. let within : i < length xs = omega arith in get_or_append_left xs (y ∷ []) d i within ∙ before i l) (get_or_push xs y d n count ∙ is)
