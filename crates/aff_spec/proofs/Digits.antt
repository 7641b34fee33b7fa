-- Eight digits tell a number below 100,000,000.
use Rattle.std.proofs.Common.{◌≡◌, ℕ, ◌+◌, ◌/◌, ◌%◌, ◌<◌, List, ◌++◌, arith}
use Rattle.aff_spec.specs.Names.{eight_digits}

-- a number is told by its last digit and those before it
last_digit : (m n : ℕ) → m / 10 ≡ n / 10 → 48 + m % 10 ≡ 48 + n % 10 → m ≡ n
last_digit m n front last = omega arith

pub digits_differ : (m n : ℕ) (s t : List ℕ) → m < 100000000 → n < 100000000 → eight_digits m ++ s ≡ eight_digits n ++ t → (m ≡ n) × (s ≡ t)
digits_differ m n s t small_m small_n e =
    let q7 : m / 10000000 ≡ n / 10000000 = last_digit _ _ (omega arith) cc in
    let q6 : m / 1000000 ≡ n / 1000000 = last_digit _ _ (omega arith) cc in
    let q5 : m / 100000 ≡ n / 100000 = last_digit _ _ (omega arith) cc in
    let q4 : m / 10000 ≡ n / 10000 = last_digit _ _ (omega arith) cc in
    let q3 : m / 1000 ≡ n / 1000 = last_digit _ _ (omega arith) cc in
    let q2 : m / 100 ≡ n / 100 = last_digit _ _ (omega arith) cc in
    let q1 : m / 10 ≡ n / 10 = last_digit _ _ (omega arith) cc in
    (last_digit m n q1 cc, cc)
