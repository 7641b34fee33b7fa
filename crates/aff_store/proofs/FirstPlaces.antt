-- The first place of a byte.
use Rattle.std.proofs.Common.{◌≡◌, ℕ, ◌+◌, ◌-◌, ◌==◌, true, false, not, cond, nat_lt, List, [], ◌∷◌, ◌++◌, length, take, drop, sym, ap, ◌∙◌, arith, append_assoc, length-append}
use Rattle.std.proofs.Math.Seq.{take-append_seam, drop-append-add}
use Rattle.std.proofs.lemmas.List.{take_rest}
use Rattle.std.specs.Prelude.{position, Some, None}
use Rattle.std.specs.List.{AllByRecursion, position_or_len}

same_true : (c : ℕ) → (c == c) ≡ true
same_true c = grind arith

first_place : (xs ys : List ℕ) (c : ℕ) → AllByRecursion (λ b. (b == c) ≡ false) xs → position_or_len (λ b. b == c) (xs ++ c ∷ ys) ≡ length xs
first_place [] ys c none = ap (λ t. cond (not t) (1 + position_or_len (λ b. b == c) ys) 0) (same_true c)
first_place (x ∷ xs) ys c none =
    ap (λ t. cond (not t) (1 + position_or_len (λ b. b == c) (xs ++ c ∷ ys)) 0) none.0 ∙ grind (arith, first_place xs ys c none.1)

pub place_at : (xs ys : List ℕ) (c : ℕ) → AllByRecursion (λ b. (b == c) ≡ false) xs → position (λ b. b == c) (xs ++ c ∷ ys) ≡ Some (length xs)
place_at xs ys c none =
    let within : nat_lt (length xs) (length (xs ++ c ∷ ys)) ≡ true = grind (arith, length-append xs (c ∷ ys)) in
    ap (λ n. cond (nat_lt n (length (xs ++ c ∷ ys))) (Some n) None) (first_place xs ys c none) ∙ ap (λ t. cond t (Some (length xs)) None) within

pub parts_at : (bytes xs ys : List ℕ) (c place : ℕ) → place ≡ length xs → bytes ≡ xs ++ c ∷ ys → (take place bytes ≡ xs) × (take (length bytes - (place + 1)) (drop (place + 1) bytes) ≡ ys)
parts_at bytes xs ys c place at is =
    let front : take place bytes ≡ xs = ap (λ n. take n bytes) at ∙ ap (take (length xs)) is ∙ take-append_seam xs (c ∷ ys) in
    let back : drop (place + 1) bytes ≡ ys = ap (λ n. drop (n + 1) bytes) at ∙ ap (drop (length xs + 1)) is ∙ drop-append-add xs (c ∷ ys) 1 in
    (front, take_rest bytes (place + 1) ∙ back)

pub line_at : (bytes xs ys : List ℕ) (c place : ℕ) → place ≡ length xs → bytes ≡ xs ++ c ∷ ys → take (place + 1) bytes ≡ xs ++ c ∷ []
line_at bytes xs ys c place at is =
    let whole : xs ++ c ∷ ys ≡ (xs ++ c ∷ []) ++ ys = sym (append_assoc xs (c ∷ []) ys) in
    let len : place + 1 ≡ length (xs ++ c ∷ []) = omega (arith, at, length-append xs (c ∷ [])) in
    ap (take (place + 1)) (is ∙ whole) ∙ ap (λ n. take n ((xs ++ c ∷ []) ++ ys)) len ∙ take-append_seam (xs ++ c ∷ []) ys
