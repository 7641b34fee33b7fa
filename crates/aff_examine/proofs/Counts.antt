-- How many numbers may rise below a bound.
use Rattle.std.proofs.Common.{◌≡◌, ℕ, zero, suc, ◌+◌, ◌<◌, ◌≤◌, List, length, get_or, refl, subst, arith}
use Rattle.std.specs.Prelude.{All}
use Rattle.std.specs.List.Sorted.{IsStrictlyIncreasing}

-- each element of a list that rises is not less than its place
up_to : (xs : List ℕ) → IsStrictlyIncreasing xs → (k : ℕ) → k < length xs → k ≤ get_or xs k 0
up_to xs rising zero low = omega arith
up_to xs rising (suc k) low =
    let before = up_to xs rising k (omega (arith, low)) in
    let same : k + 1 ≡ suc k = omega arith in
    let step : get_or xs k 0 < get_or xs (k + 1) 0 = rising k (omega (arith, low)) in
    subst (λ m. suc k ≤ get_or xs m 0) same (omega (arith, before, step))

few_by : (xs : List ℕ) (n m : ℕ) → IsStrictlyIncreasing xs → All (λ x. x < n) xs → length xs ≡ m → length xs ≤ n
few_by xs n zero rising below is = omega (arith, is)
few_by xs n (suc m) rising below is =
    let last = up_to xs rising m (omega (arith, is)) in
    let top = below m 0 (omega (arith, is)) in
    omega (arith, is, last, top)

pub few_rise : (xs : List ℕ) (n : ℕ) → IsStrictlyIncreasing xs → All (λ x. x < n) xs → length xs ≤ n
few_rise xs n rising below = few_by xs n (length xs) rising below refl
