-- Two equal texts that are cut at a byte which comes in neither part before it have equal parts; and so have two that are cut
-- behind parts of one length.
use Rattle.std.proofs.Common.{◌≡◌, ◌≢◌, ℕ, ◌<◌, ◌^◌, List, [], ◌∷◌, ◌++◌, length, get_or, refl, sym, ap, ◌∙◌, arith}
use Rattle.std.specs.Prelude.{All, Contains}
use Rattle.std.specs.Fmt.{decimal}
use Rattle.std.specs.Int.{IsInRange}
use Rattle.std.specs.Str.Parse.{AllDigits, digits_value}
use Rattle.std.proofs.lemmas.Fmt.{decimal_injective, digits_decimal}
use Rattle.std.proofs.lemmas.List.{get_or_default}
use Rattle.std.proofs.lemmas.List.Elements.{All-head, All-tail, All-from_get_or}
use Rattle.std.proofs.lemmas.Str.Parse.{IsNumeralModel, not_in_digits, numerals_by_value, tells_digits}

-- a text without a byte
abbrev pub Lacks : ℕ → List ℕ → Type 0
Lacks c text = All (λ b. b ≢ c) text

pub split_at_byte : (c : ℕ) (u v s t : List ℕ) → Lacks c u → Lacks c v → u ++ (c ∷ s) ≡ v ++ (c ∷ t) → (u ≡ v) × (s ≡ t)
split_at_byte c [] [] s t no_u no_v e = (refl, cc)
split_at_byte c [] (y ∷ v) s t no_u no_v e = absurd (All-head (λ b. b ≢ c) y v no_v cc)
split_at_byte c (x ∷ u) [] s t no_u no_v e = absurd (All-head (λ b. b ≢ c) x u no_u cc)
split_at_byte c (x ∷ u) (y ∷ v) s t no_u no_v e =
    let rest = split_at_byte c u v s t (All-tail (λ b. b ≢ c) x u no_u) (All-tail (λ b. b ≢ c) y v no_v) cc in
    let first : x ≡ y = cc in
    (λ i. first i ∷ rest.0 i, rest.1)

pub split_at_length : (u v s t : List ℕ) → length u ≡ length v → u ++ s ≡ v ++ t → (u ≡ v) × (s ≡ t)
split_at_length [] [] s t long e = (refl, e)
split_at_length [] (y ∷ v) s t long e = absurd (omega arith)
split_at_length (x ∷ u) [] s t long e = absurd (omega arith)
split_at_length (x ∷ u) (y ∷ v) s t long e =
    let rest = split_at_length u v s t (omega arith) cc in
    let first : x ≡ y = cc in
    (λ i. first i ∷ rest.0 i, rest.1)

-- texts with other bytes at some place differ
pub byte_differs : (i a b : ℕ) (u v : List ℕ) → get_or u i 0 ≡ a → get_or v i 0 ≡ b → a ≢ b → ¬ (u ≡ v)
byte_differs i a b u v at_u at_v apart e = apart (sym at_u ∙ ap (λ w. get_or w i 0) e ∙ at_v)

-- a text that does not contain a byte lacks it
pub lacks_from : (c : ℕ) (text : List ℕ) → ¬ (Contains text c) → Lacks c text
lacks_from c text none = λ k d below e. none (k, below, get_or_default text k c d below ∙ e)

numerals : IsNumeralModel (AllDigits 10) (digits_value 10)
numerals = numerals_by_value (AllDigits 10) tells_digits

-- a decimal lacks what is no digit
pub decimal_lacks : (c n : ℕ) → c < 48 → n < 2 ^ 64 → Lacks c (decimal n)
decimal_lacks c n low small =
    let apart : ¬ (IsInRange 48 57 c) = λ h. absurd (omega (arith, h.0)) in
    All-from_get_or (λ b. b ≢ c) (decimal n) 0 (not_in_digits numerals (decimal n) c (digits_decimal numerals n small) apart)

-- a decimal up to a byte that is no digit
pub split_decimal : (c m n : ℕ) (s t : List ℕ) → c < 48 → m < 2 ^ 64 → n < 2 ^ 64 → decimal m ++ (c ∷ s) ≡ decimal n ++ (c ∷ t) → (m ≡ n) × (s ≡ t)
split_decimal c m n s t low small_m small_n e =
    let parts = split_at_byte c (decimal m) (decimal n) s t (decimal_lacks c m low small_m) (decimal_lacks c n low small_n) e in
    (decimal_injective m n small_m small_n parts.0, parts.1)
