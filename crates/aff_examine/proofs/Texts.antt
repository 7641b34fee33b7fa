-- A tally's text is one line.
use Rattle.std.proofs.Common.{◌≢◌, ℕ, ◌<◌, ◌^◌, List, [], ◌∷◌, refl, arith, codes}
use Rattle.std.specs.Prelude.{All, Contains}
use Rattle.std.specs.Fmt.{decimal}
use Rattle.std.specs.List.{AllByRecursion}
use Rattle.std.specs.Str.Parse.{AllDigits}
use Rattle.std.proofs.lemmas.Fmt.{decimal_is_IsNumeral}
use Rattle.std.proofs.lemmas.List.Elements.{All-append, All-contains, All-from_recursion}
use Rattle.std.proofs.lemmas.Str.Parse.{digit_from_value}
use Rattle.aff_examine.specs.Tallies.{tally_text}

abbrev IsOther : ℕ → Type 0
IsOther b = b ≢ 10

other_digits : (digits : List ℕ) → AllDigits 10 digits → AllByRecursion IsOther digits
other_digits [] all = tt
other_digits (d ∷ digits) all = let range = digit_from_value d all.0 in ((λ is. omega (arith, range.0, is)), other_digits digits all.1)

other_decimal : (n : ℕ) → n < 2 ^ 64 → All IsOther (decimal n)
other_decimal n small = All-from_recursion IsOther (decimal n) (other_digits (decimal n) (decimal_is_IsNumeral n small).0.1)

other_words : (text : List ℕ) → AllByRecursion IsOther text → All IsOther text
other_words text all = All-from_recursion IsOther text all

pub one_line : (readable unreadable : ℕ) → readable < 2 ^ 64 → unreadable < 2 ^ 64 → ¬ (Contains (tally_text (readable ∷ unreadable ∷ [])) 10)
one_line readable unreadable small few has =
    let first = other_words (codes "readable ") ((λ is. cc is), ((λ is. cc is), ((λ is. cc is), ((λ is. cc is), ((λ is. cc is), ((λ is. cc is), ((λ is. cc is), ((λ is. cc is), ((λ is. cc is), tt))))))))) in
    let second = other_words (codes " unreadable ") ((λ is. cc is), ((λ is. cc is), ((λ is. cc is), ((λ is. cc is), ((λ is. cc is), ((λ is. cc is), ((λ is. cc is), ((λ is. cc is), ((λ is. cc is), ((λ is. cc is), ((λ is. cc is), ((λ is. cc is), tt)))))))))))) in
    let all = All-append IsOther (codes "readable ") _ first (All-append IsOther (decimal readable) _ (other_decimal readable small) (All-append IsOther (codes " unreadable ") (decimal unreadable) second (other_decimal unreadable few))) in
    All-contains IsOther (tally_text (readable ∷ unreadable ∷ [])) 10 all has refl
