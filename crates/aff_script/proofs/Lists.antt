-- Lists that are cut in two.
use Rattle.std.proofs.Common.{◌≡◌, ℕ, ◌+◌, ◌<◌, ◌⊎◌, inl, inr, List, [], ◌∷◌, ◌++◌, length, get_or, set, take, refl, sym, ap, subst, ◌∙◌, arith, All, length-append}
use Rattle.std.proofs.lemmas.List.{length-set, take_all, take_more, take_more_set}
use Rattle.std.specs.List.{AllByRecursion, AllZip}
use Rattle.std.proofs.lemmas.List.Elements.{All-from_recursion, recursion_from_All}

-- what holds of all elements
pub record Halves {X : Type 0} (P : X → Type 0) (xs : List X) (y : X) (ys : List X) : Type 0 where
  pub before : AllByRecursion P xs
  pub at : P y
  pub behind : AllByRecursion P ys

pub halves : {X : Type 0} (P : X → Type 0) (xs : List X) (y : X) (ys : List X) → AllByRecursion P (xs ++ y ∷ ys) → Halves P xs y ys
halves P [] y ys all = record { before = tt; at = all.0; behind = all.1 }
halves P (x ∷ xs) y ys all = let h = halves P xs y ys all.1 in record { before = (all.0, h.before); at = h.at; behind = h.behind }

pub all_before : {X : Type 0} (P : X → Type 0) (xs : List X) (y : X) (ys : List X) → All P (xs ++ y ∷ ys) → All P xs
all_before P xs y ys all = All-from_recursion P xs (halves P xs y ys (recursion_from_All P (xs ++ y ∷ ys) all)).before

pub all_at : {X : Type 0} (P : X → Type 0) (xs : List X) (y : X) (ys : List X) → All P (xs ++ y ∷ ys) → P y
all_at P xs y ys all = (halves P xs y ys (recursion_from_All P (xs ++ y ∷ ys) all)).at

-- of two lists that are one with an element more
pub same_push : {X : Type 0} (xs ys : List X) (x y : X) → xs ++ x ∷ [] ≡ ys ++ y ∷ [] → (xs ≡ ys) × (x ≡ y)
same_push [] [] x y is = let first : x ≡ y = cc is in (refl, first)
same_push [] (z ∷ ys) x y is = absurd (omega (arith, ap length is, length-append ys (y ∷ [])))
same_push (w ∷ xs) [] x y is = absurd (omega (arith, ap length is, length-append xs (x ∷ [])))
same_push (w ∷ xs) (z ∷ ys) x y is =
    let first : w ≡ z = cc is in
    let others : xs ++ x ∷ [] ≡ ys ++ y ∷ [] = cc is in
    let rest = same_push xs ys x y others in
    (λ i. first i ∷ rest.0 i, rest.1)

-- what an element among others is paired with
pub record Pairs {X Y : Type 0} (R : X → Y → Type 0) (before : List X) (x : X) (all : List Y) : Type 0 where
  pub front : List Y
  pub y : Y
  pub back : List Y
  pub are : all ≡ front ++ y ∷ back
  pub before_are : AllZip R before front
  pub at : R x y

pub pairs : {X Y : Type 0} (R : X → Y → Type 0) (before : List X) (x : X) (after : List X) (all : List Y) → AllZip R (before ++ x ∷ after) all → Pairs R before x all
pairs R [] x after [] zip = absurd zip
pairs R [] x after (y ∷ all) zip = record { front = []; y = y; back = all; are = refl; before_are = tt; at = zip.0 }
pairs R (b ∷ before) x after [] zip = absurd zip
pairs R (b ∷ before) x after (y ∷ all) zip =
    let p = pairs R before x after all zip.1 in
    record { front = y ∷ p.front; y = p.y; back = p.back; are = ap (λ v. y ∷ v) p.are; before_are = (zip.0, p.before_are); at = p.at }

pub zip_push : {X Y : Type 0} (R : X → Y → Type 0) (xs : List X) (ys : List Y) (x : X) (y : Y) → AllZip R xs ys → R x y → AllZip R (xs ++ x ∷ []) (ys ++ y ∷ [])
zip_push R [] [] x y zip is = (is, tt)
zip_push R [] (z ∷ ys) x y zip is = absurd zip
zip_push R (w ∷ xs) [] x y zip is = absurd zip
zip_push R (w ∷ xs) (z ∷ ys) x y zip is = (zip.0, zip_push R xs ys x y zip.1 is)

-- one list is cut at two elements
pub record Longer {X : Type 0} (b : List X) (l : X) (c : List X) : Type 0 where
  pub more : List X
  pub is : c ≡ b ++ l ∷ more

abbrev pub Cuts : {X : Type 0} → List X → X → List X → X → Type 0
Cuts b l c m = ((b ≡ c) × (l ≡ m)) ⊎ (Longer b l c ⊎ Longer c m b)

pub cuts : {X : Type 0} (b : List X) (l : X) (a c : List X) (m : X) (d : List X) → b ++ l ∷ a ≡ c ++ m ∷ d → Cuts b l c m
cuts [] l a [] m d e = inl (refl, cc e)
cuts [] l a (x ∷ c) m d e = let first : x ≡ l = cc e in inr (inl (record { more = c; is = ap (λ v. v ∷ c) first }))
cuts (x ∷ b) l a [] m d e = let first : x ≡ m = cc e in inr (inr (record { more = b; is = ap (λ v. v ∷ b) first }))
cuts (x ∷ b) l a (y ∷ c) m d e =
    let first : x ≡ y = cc e in
    let rest : b ++ l ∷ a ≡ c ++ m ∷ d = cc e in
    elim (cuts b l a c m d rest) [
      | inl same ↦ inl ((λ i. first i ∷ same.0 i), same.1)
      | inr more ↦ elim more [
        | inl p ↦ inr (inl (record { more = p.more; is = λ i. sym first i ∷ p.is i }))
        | inr p ↦ inr (inr (record { more = p.more; is = λ i. first i ∷ p.is i }))
      ]
    ]

-- the last element, and another in its place
pub last_at : {X : Type 0} (xs : List X) (n : ℕ) (d : X) → length xs ≡ n + 1 → xs ≡ take n xs ++ get_or xs n d ∷ []
last_at xs n d long = sym (take_all (n + 1) xs (omega (arith, long))) ∙ take_more xs n d (omega (arith, long))

pub last_set : {X : Type 0} (xs : List X) (n : ℕ) (y : X) → length xs ≡ n + 1 → set xs n y ≡ take n xs ++ y ∷ []
last_set xs n y long = sym (take_all (n + 1) (set xs n y) (omega (arith, long, length-set xs n y))) ∙ take_more_set xs n y (omega (arith, long))
