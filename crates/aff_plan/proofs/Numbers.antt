-- Fields that are numbers, and fields that are none.
use Rattle.std.proofs.Common.{◌≡◌, ◌≢◌, ℕ, zero, suc, ◌+◌, ◌<◌, ◌≤◌, ◌^◌, Ok, Err, Result, List, [], ◌∷◌, length, get_or, refl, sym, ap, ◌∙◌, subst, arith}
use Rattle.std.specs.Fmt.{decimal}
use Rattle.std.specs.Str.Parse.{AllDigits, ParsesUnsigned, digits_value}
use Rattle.std.proofs.lemmas.Fmt.{decimal-digits_value, decimal_is_IsNumeral, decimal_digit, decimal_nonempty, first_decimal}
use Rattle.std.proofs.lemmas.Str.Parse.{IsNumeralModel, numerals_by_value, tells_digits, parse_plain, digit_at}
use Rattle.aff_plan.specs.Line.{IsNumber, IsNoNumber}

own : IsNumeralModel (AllDigits 10) (digits_value 10)
own = numerals_by_value (AllDigits 10) tells_digits

-- what is parsed, without a sign and without leading zeros
pub number_read : (field : List ℕ) (n : ℕ) → ParsesUnsigned {E = ℕ} 64 10 field (Ok n) → get_or field 0 0 ≢ 43 → (get_or field 0 0 ≡ 48 → length field ≡ 1) → IsNumber field n
number_read field n parses plain lead =
    let r = parse_plain own {E = ℕ} 64 field (Ok n) parses plain in
    (subst (λ v. v < 2 ^ 64) (sym r.1) r.0.2, sym (ap decimal r.1 ∙ decimal-digits_value own field r.0.0 r.0.1 lead r.0.2))

-- no number is empty
pub no_empty : (field : List ℕ) → length field ≡ 0 → IsNoNumber field
no_empty field none n is = let some = decimal_nonempty n is.0 in absurd (omega (arith, some, none, ap length is.1))

-- a number begins with a digit
pub no_sign : (field : List ℕ) → get_or field 0 0 ≡ 43 → IsNoNumber field
no_sign field sign n is =
    let digit = digit_at (decimal n) 0 (decimal_is_IsNumeral n is.0).0.1 (decimal_nonempty n is.0) in
    let first : get_or field 0 0 ≡ get_or (decimal n) 0 0 = ap (λ ds. get_or ds 0 0) is.1 in
    absurd (omega (arith, digit.0, first, sign))

-- a number of several digits does not begin with a zero
pub no_zeros : (field : List ℕ) → get_or field 0 0 ≡ 48 → 1 < length field → IsNoNumber field
no_zeros field zeros long zero is = absurd (omega (arith, long, ap length (is.1 ∙ decimal_digit 0 (omega arith))))
no_zeros field zeros long (suc n) is =
    let first : get_or field 0 0 ≡ get_or (decimal (suc n)) 0 0 = ap (λ ds. get_or ds 0 0) is.1 in
    absurd (omega (arith, first_decimal (suc n) (omega arith) is.0, first, zeros))

-- where no zero leads, a zero that is first stands alone
pub lead_of : (field : List ℕ) → ¬ ((get_or field 0 0 ≡ 48) × (1 < length field)) → get_or field 0 0 ≡ 48 → length field ≡ 1
lead_of [] none zeros = absurd (omega (arith, zeros))
lead_of (b ∷ []) none zeros = refl
lead_of (b ∷ c ∷ field) none zeros = absurd (none (zeros, omega arith))
