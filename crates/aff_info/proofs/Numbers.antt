-- Numbers and their texts.
use Rattle.std.proofs.Common.{◌≡◌, ◌⊎◌, ℕ, ◌^◌, ◌<◌, Bool, true, false, cond, ◌&&◌, ltb, List, Option, Some, None, Result, Ok, Err, refl, sym, ap, ◌∙◌, inl, inr, arith}
use Rattle.std.proofs.lemmas.Bool.{lt-ltb, ltb-true}
use Rattle.std.proofs.lemmas.Fmt.{decimal_is_IsNumeral}
use Rattle.std.proofs.lemmas.Slice.Eq.{bytes_eq-Decides}
use Rattle.std.specs.Fmt.{decimal}
use Rattle.std.specs.Str.{bytes_eq}
use Rattle.std.specs.Str.Parse.{digits_value, ParsesUnsigned}
use Rattle.aff_info.specs.Values.{number_in}

pub number_spelled : (n : ℕ) (text : List ℕ) → n < 2 ^ 64 → decimal n ≡ text → number_in text ≡ Some n
unfolding number_in
number_spelled n text h e =
    let value : digits_value 10 text ≡ n = ap (digits_value 10) (sym e) ∙ (decimal_is_IsNumeral n h).1 in
    rw (value, lt-ltb n (2 ^ 64) h, (bytes_eq-Decides (decimal n) text).1 e) refl

tested : (a b : Bool) (n : ℕ) (P : Type 0) → (a ≡ true → b ≡ true → P) → (cond (a && b) (Some n) None ≡ None) ⊎ P
tested true true n P h = inr (h refl refl)
tested true false n P h = inl refl
tested false b n P h = inl refl

-- a text states no number, or is the spelling of one
pub number_tells : (text : List ℕ) → (number_in text ≡ None) ⊎ ((n : ℕ) × (n < 2 ^ 64) × (text ≡ decimal n))
unfolding number_in
number_tells text =
    let n = digits_value 10 text in
    tested (ltb n (2 ^ 64)) (bytes_eq (decimal n) text) n _ (λ a b. (n, ltb-true n (2 ^ 64) a, sym ((bytes_eq-Decides (decimal n) text).0 b)))

pub parsed_small : {E : Type 0} (n : ℕ) (text : List ℕ) (r : Result ℕ E) → r ≡ Ok n → ParsesUnsigned 64 10 text r → n < 2 ^ 64
parsed_small n text (Ok m) e h = let same : m ≡ n = cc in omega (arith, h.0.1, h.1, same)
parsed_small n text (Err f) e h = absurd cc

pub not_same : (xs ys : List ℕ) → xs ≡ ys → bytes_eq xs ys ≡ false → ⊥
not_same xs ys e f = let t : bytes_eq xs ys ≡ true = (bytes_eq-Decides xs ys).1 e in cc
