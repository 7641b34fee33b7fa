-- Loops that change one element after another.
use Rattle.std.proofs.Common.{◌≡◌, ◌≢◌, ℕ, suc, zero, ◌+◌, ◌<◌, ◌≤◌, List, length, get_or, set, get_or-set_other, get_or-set_same, below_more, refl, sym, ap, subst, ◌∙◌, arith}
use Rattle.std.specs.Prelude.{All}
use Rattle.std.proofs.lemmas.List.{get_or_default}

module _ {S : Type 0} (Rel : S → S → Type 0) (olds xs : List S) (i : ℕ) (y : S) (inside : i < length xs) where
  -- the elements before the place are changed, and now that at it
  pub changed : ((k : ℕ) (d : S) → k < i → Rel (get_or olds k d) (get_or xs k d)) → ((k : ℕ) (d : S) → i ≤ k → get_or xs k d ≡ get_or olds k d) → (e : S) → Rel (get_or xs i e) y
      → (k : ℕ) (d : S) → k < i + 1 → Rel (get_or olds k d) (get_or (set xs i y) k d)
  changed done rest e one k d below = below_more (λ k. (d : S) → Rel (get_or olds k d) (get_or (set xs i y) k d)) i
      (λ k h d. let ne : k ≢ i = omega (arith, h) in subst (Rel (get_or olds k d)) (sym (get_or-set_other xs i k y d ne)) (done k d h))
      (λ d.
      let here : get_or xs i e ≡ get_or olds i d = get_or_default xs i e d inside ∙ rest i d (omega arith) in
      subst (Rel (get_or olds i d)) (sym (get_or-set_same xs i y d inside)) (subst (λ (z : S). Rel z y) here one))
      k below d

  -- the others are as they were
  pub unchanged : ((k : ℕ) (d : S) → i ≤ k → get_or xs k d ≡ get_or olds k d) → (k : ℕ) (d : S) → i + 1 ≤ k → get_or (set xs i y) k d ≡ get_or olds k d
  unchanged rest k d below =
      let ne : k ≢ i = omega (arith, below) in
      get_or-set_other xs i k y d ne ∙ rest k d (omega (arith, below))

-- what holds of each element before holds of the one at the place
pub at_place : {S : Type 0} (Q : S → Type 0) (olds xs : List S) (i : ℕ) (e : S) → ((k : ℕ) (d : S) → i ≤ k → get_or xs k d ≡ get_or olds k d) → All Q olds → i < length olds → Q (get_or xs i e)
at_place Q olds xs i e rest all below = subst Q (sym (rest i e (omega arith))) (all i e below)

-- and so it does of that element, which a reference was taken to
pub at_index : {S : Type 0} (Q : S → Type 0) (olds xs : List S) (i : ℕ) (e : S) → e ≡ get_or xs i e → ((k : ℕ) (d : S) → i ≤ k → get_or xs k d ≡ get_or olds k d) → All Q olds → i < length olds → Q e
at_index Q olds xs i e is rest all below = subst Q (sym is) (at_place Q olds xs i e rest all below)

-- the elements before a place are changed, and now that to which a reference was taken
pub changed_at : {S : Type 0} (Rel : S → S → Type 0) (olds xs : List S) (i : ℕ) (y : S) → i < length xs → ((k : ℕ) (d : S) → k < i → Rel (get_or olds k d) (get_or xs k d)) → ((k : ℕ) (d : S) → i ≤ k → get_or xs k d ≡ get_or olds k d)
    → (e : S) → e ≡ get_or xs i e → Rel e y → (k : ℕ) (d : S) → k < i + 1 → Rel (get_or olds k d) (get_or (set xs i y) k d)
changed_at {S} Rel olds xs i y inside done rest e is one = changed Rel olds xs i y inside done rest e (subst (λ (z : S). Rel z y) is one)
