-- Texts that are cut off: what a front of two parts is.
use Rattle.std.proofs.Common.{◌≡◌, ℕ, ◌+◌, ◌<◌, ◌⊎◌, Bool, true, false, cond, List, [], ◌∷◌, ◌++◌, length, get_or, refl, sym, arith, inl, inr}
use Rattle.std.specs.List.{prefix_len}

-- it ends in the first part, with something of it left
pub record EndsIn (xs first : List ℕ) : Type 0 where
  pub left : List ℕ
  pub some : 0 < length left
  pub is : first ≡ xs ++ left

-- or it has the first part, and a front of the second
pub record GoesOn (xs more first second : List ℕ) : Type 0 where
  pub front : List ℕ
  pub is : xs ≡ first ++ front
  pub rest : front ++ more ≡ second

pub cut_in : (xs more first second : List ℕ) → xs ++ more ≡ first ++ second → EndsIn xs first ⊎ GoesOn xs more first second
cut_in xs more [] second e = inr (record { front = xs; is = refl; rest = e })
cut_in [] more (c ∷ first) second e = inl (record { left = c ∷ first; some = omega arith; is = refl })
cut_in (x ∷ xs) more (c ∷ first) second e =
    let head : x ≡ c = cc in
    let tail : xs ++ more ≡ first ++ second = cc in
    elim (cut_in xs more first second tail) [
      | inl ends ↦ inl (record { left = ends.left; some = ends.some; is = λ i. head_is head i ∷ ends.is i })
      | inr on ↦ inr (record { front = on.front; is = λ i. head i ∷ on.is i; rest = on.rest })
    ]
  where
    head_is : x ≡ c → c ≡ x
    head_is h = sym h

-- a front of a list and one element more, which lacks that, is a front of the list
pub lacks_last : (xs ys : List ℕ) (c : ℕ) (left : List ℕ) → 0 < length left → ys ++ c ∷ [] ≡ xs ++ left → (rest : List ℕ) × (ys ≡ xs ++ rest)
lacks_last [] ys c left some e = (ys, refl)
lacks_last (x ∷ xs) [] c left some e = absurd (too_long xs left some (tail_is x c xs left e))
  where
    tail_is : (x c : ℕ) (xs left : List ℕ) → c ∷ [] ≡ (x ∷ xs) ++ left → [] ≡ xs ++ left
    tail_is x c xs left e = cc

    too_long : (xs left : List ℕ) → 0 < length left → [] ≡ xs ++ left → ⊥
    too_long [] [] some e = omega (arith, some)
    too_long [] (l ∷ left) some e = cc
    too_long (x ∷ xs) left some e = cc
lacks_last (x ∷ xs) (y ∷ ys) c left some e =
    let head : y ≡ x = cc in
    let tail : ys ++ c ∷ [] ≡ xs ++ left = cc in
    let more = lacks_last xs ys c left some tail in
    (more.0, λ i. head i ∷ more.1 i)

-- where all characters of a list pass, so do those of a front of it
pub front_passes : (p : ℕ → Bool) (xs rest : List ℕ) → prefix_len p (xs ++ rest) ≡ length (xs ++ rest) → prefix_len p xs ≡ length xs
front_passes p [] rest all = refl
front_passes p (x ∷ xs) rest all = by_first (p x) refl all (front_passes p xs rest)
  where
    by_first : (b : Bool) → p x ≡ b → cond b (1 + prefix_len p (xs ++ rest)) 0 ≡ length (x ∷ (xs ++ rest))
        → (prefix_len p (xs ++ rest) ≡ length (xs ++ rest) → prefix_len p xs ≡ length xs) → cond (p x) (1 + prefix_len p xs) 0 ≡ length (x ∷ xs)
    by_first true is e more = let own : prefix_len p (xs ++ rest) ≡ length (xs ++ rest) = omega (arith, e) in let below = more own in rw is (omega (arith, below))
    by_first false is e more = absurd (omega (arith, e))

-- nothing stands behind the end
pub behind : (xs : List ℕ) → get_or xs (length xs) 0 ≡ 0
behind [] = refl
behind (x ∷ xs) = behind xs
