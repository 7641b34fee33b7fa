-- Hexadecimal digits, one after another.
use Rattle.std.proofs.Common.{◌≡◌, ℕ, zero, suc, ◌+◌, ◌-◌, ◌*◌, ◌^◌, ◌<◌, ◌≤◌, List, ◌∷◌, length, drop, get_or, cond, ltb, None, refl, sym, ◌∙◌, arith, lit≤}
use Rattle.std.proofs.lemmas.Grind.{pow_more}
use Rattle.std.proofs.lemmas.Bool.{le-ltb, lt-ltb}
use Rattle.std.proofs.lemmas.List.{at_drop_more, at_drop_all}
use Rattle.std.specs.Char.{digit_value}
use Rattle.aff_turtle.specs.Quoted.{hex_number}

pub below_limit : (place n digit : ℕ) → n < 16 ^ place → digit < 16 → 16 * n + digit < 16 ^ (place + 1)
below_limit place n digit h d = rw pow_more (omega arith)

pub eight_digits : (place : ℕ) → place < 9 → 16 ^ place ≤ 2 ^ 32
eight_digits zero lt = lit≤ tt
eight_digits (suc zero) lt = lit≤ tt
eight_digits (suc (suc zero)) lt = lit≤ tt
eight_digits (suc (suc (suc zero))) lt = lit≤ tt
eight_digits (suc (suc (suc (suc zero)))) lt = lit≤ tt
eight_digits (suc (suc (suc (suc (suc zero))))) lt = lit≤ tt
eight_digits (suc (suc (suc (suc (suc (suc zero)))))) lt = lit≤ tt
eight_digits (suc (suc (suc (suc (suc (suc (suc zero))))))) lt = lit≤ tt
eight_digits (suc (suc (suc (suc (suc (suc (suc (suc zero)))))))) lt = lit≤ tt
eight_digits (suc (suc (suc (suc (suc (suc (suc (suc (suc k))))))))) lt = absurd (omega arith)

-- one digit more
one_more : (digits place n c : ℕ) (cs : List ℕ) → place < digits → place < length cs → c ≡ get_or cs place c
    → hex_number (digits - place) n (drop place cs) ≡ cond (ltb (digit_value c) 16) (hex_number (digits - (place + 1)) (16 * n + digit_value c) (drop (place + 1) cs)) None
one_more digits place n c cs lt inside e =
    let k : digits - place ≡ suc (digits - (place + 1)) = omega arith in
    let step : (d : ℕ) → d ≡ c → hex_number (suc (digits - (place + 1))) n (d ∷ drop (place + 1) cs) ≡ cond (ltb (digit_value c) 16) (hex_number (digits - (place + 1)) (16 * n + digit_value c) (drop (place + 1) cs)) None = λ d h. rw h refl in
    rw k (at_drop_more (hex_number (suc (digits - (place + 1))) n) cs place c inside ∙ step (get_or cs place c) (sym e))

pub digit_goes_on : (digits place n c : ℕ) (cs : List ℕ) → place < digits → place < length cs → c ≡ get_or cs place c → digit_value c < 16
    → hex_number (digits - place) n (drop place cs) ≡ hex_number (digits - (place + 1)) (16 * n + digit_value c) (drop (place + 1) cs)
digit_goes_on digits place n c cs lt inside e d = one_more digits place n c cs lt inside e ∙ rw (lt-ltb (digit_value c) 16 d) refl

pub digit_fails : (digits place n c : ℕ) (cs : List ℕ) → place < digits → place < length cs → c ≡ get_or cs place c → 16 ≤ digit_value c → hex_number (digits - place) n (drop place cs) ≡ None
digit_fails digits place n c cs lt inside e d = one_more digits place n c cs lt inside e ∙ rw (le-ltb (digit_value c) 16 d) refl

pub no_more : (digits place n : ℕ) (cs : List ℕ) → place < digits → length cs ≤ place → hex_number (digits - place) n (drop place cs) ≡ None
no_more digits place n cs lt past =
    let k : digits - place ≡ suc (digits - (place + 1)) = omega arith in
    rw k (at_drop_all (hex_number (suc (digits - (place + 1))) n) cs place past)
