-- Lists of numbers in which none stands twice.
use Rattle.std.proofs.Common.{◌≡◌, ℕ, zero, suc, ◌<◌, Bool, true, false, true≢false, List, [], ◌∷◌, ◌++◌, length, nat_eq, refl, sym, ◌∙◌, arith}
use Rattle.std.specs.Prelude.{Contains, slice_index_or}
use Rattle.std.specs.List.{IsDistinct, AllByRecursion}
use Rattle.std.proofs.lemmas.Map.Keys.{IsDistinct-cons, IsDistinct-head, IsDistinct-tail}
use Rattle.std.proofs.lemmas.Bool.Decides.{Decides-eqb}

-- of no numbers none stands twice
pub once_none : IsDistinct nat_eq []
unfolding IsDistinct
once_none = tt

not_true : (b : Bool) → (b ≡ true → ⊥) → b ≡ false
not_true true apart = absurd (apart refl)
not_true false apart = refl

differs : (x y : ℕ) → (x ≡ y → ⊥) → nat_eq x y ≡ false
differs x y apart = not_true (nat_eq x y) (λ same. apart ((Decides-eqb x y).0 same))

-- none of the numbers is x
abbrev Lacks : ℕ → List ℕ → Type 0
Lacks x ys = AllByRecursion (λ y. nat_eq x y ≡ false) ys

lacks_push : (x : ℕ) (ys : List ℕ) (z : ℕ) → Lacks x ys → nat_eq x z ≡ false → Lacks x (ys ++ z ∷ [])
lacks_push x [] z lacks differ = (differ, tt)
lacks_push x (y ∷ ys) z lacks differ = (lacks.0, lacks_push x ys z lacks.1 differ)

lacks_part : (x : ℕ) (ys zs : List ℕ) → Lacks x (ys ++ zs) → Lacks x ys
lacks_part x [] zs lacks = tt
lacks_part x (y ∷ ys) zs lacks = (lacks.0, lacks_part x ys zs lacks.1)

-- a number that does not stand in the list may be put behind it
pub once_push : (xs : List ℕ) (y : ℕ) → IsDistinct nat_eq xs → (Contains xs y → ⊥) → IsDistinct nat_eq (xs ++ y ∷ [])
once_push [] y once new = IsDistinct-cons nat_eq y [] tt once_none
once_push (x ∷ xs) y once new =
    IsDistinct-cons nat_eq x (xs ++ y ∷ [])
    (lacks_push x xs y (IsDistinct-head nat_eq x xs once) (differs x y (λ same. new (0, omega arith, same))))
    (once_push xs y (IsDistinct-tail nat_eq x xs once) (λ c. let within = c.1 in new (suc c.0, omega arith, c.2)))

-- so it is of each beginning
pub once_part : (xs ys : List ℕ) → IsDistinct nat_eq (xs ++ ys) → IsDistinct nat_eq xs
once_part [] ys once = once_none
once_part (x ∷ xs) ys once =
    IsDistinct-cons nat_eq x xs (lacks_part x xs ys (IsDistinct-head nat_eq x (xs ++ ys) once)) (once_part xs ys (IsDistinct-tail nat_eq x (xs ++ ys) once))

lacks_at : (x : ℕ) (ys : List ℕ) (z : ℕ) (zs : List ℕ) → Lacks x (ys ++ z ∷ zs) → nat_eq x z ≡ false
lacks_at x [] z zs lacks = lacks.0
lacks_at x (y ∷ ys) z zs lacks = lacks_at x ys z zs lacks.1

apart_at : (xs : List ℕ) (y : ℕ) (ys : List ℕ) → IsDistinct nat_eq (xs ++ y ∷ ys) → (k : ℕ) → k < length xs → slice_index_or xs k y ≡ y → ⊥
apart_at [] y ys once k within same = absurd (omega arith)
apart_at (x ∷ xs) y ys once zero within same =
    true≢false (sym ((Decides-eqb x y).1 same) ∙ lacks_at x xs y ys (IsDistinct-head nat_eq x (xs ++ y ∷ ys) once))
apart_at (x ∷ xs) y ys once (suc k) within same = apart_at xs y ys (IsDistinct-tail nat_eq x (xs ++ y ∷ ys) once) k (omega arith) same

-- a number that stands behind a beginning does not stand in it
pub once_apart : (xs : List ℕ) (y : ℕ) (ys : List ℕ) → IsDistinct nat_eq (xs ++ y ∷ ys) → Contains xs y → ⊥
once_apart xs y ys once has = apart_at xs y ys once has.0 has.1 has.2
