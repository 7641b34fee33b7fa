-- Orders have each number below their length, and no other.
use Rattle.std.proofs.Common.{◌≡◌, ℕ, ◌<◌, List, length, All, Contains, IfSome, Option, None, Some, Bor, ◌≤◌, get_or, subst, sym, arith}
use Rattle.std.specs.List.{range_with_len}
use Rattle.std.proofs.lemmas.List.Elements.{All-from_get_or, Contains-get_or}
use Rattle.std.proofs.lemmas.List.FromFn.{get_or-range_with_len, length-range_with_len}
use Rattle.std.proofs.lemmas.List.Sorted.{All-permutation, Contains-permutation}
use Rattle.std.specs.List.{HoldsAt}
use Rattle.std.specs.Option.{MatchOption, option_copied}
use Rattle.aff_order.specs.Order.{IsOrder}

pub all_below : (order : List ℕ) → IsOrder order → All (λ e. e < length order) order
all_below order is =
    let n = length order in
    let numbers : All (λ e. e < n) (range_with_len 0 n) = All-from_get_or (λ e. e < n) (range_with_len 0 n) 0 (λ i l.
    let short : i < n = omega (arith, length-range_with_len 0 n) in let at = get_or-range_with_len 0 n i 0 short in omega arith) in
    All-permutation (λ e. e < n) (range_with_len 0 n) order is numbers

pub has_each : (order : List ℕ) (e : ℕ) → IsOrder order → e < length order → Contains order e
has_each order e is l =
    let n = length order in
    let at : get_or (range_with_len 0 n) e 0 ≡ e = let h = get_or-range_with_len 0 n e 0 l in omega arith in
    let within : e < length (range_with_len 0 n) = omega (arith, length-range_with_len 0 n) in
    Contains-permutation (range_with_len 0 n) order e is (subst (λ x. Contains (range_with_len 0 n) x) at (Contains-get_or (range_with_len 0 n) e 0 within))

-- what holds of each element holds of the one that is read
pub read_of_all : (P : ℕ → Type 0) (xs : List ℕ) (i : ℕ) (read : Option (Bor ℕ)) → All P xs
    → MatchOption read (length xs ≤ i) (λ x. (i < length xs) × HoldsAt (λ y. x.now ≡ y) xs i) → IfSome (option_copied read) P
read_of_all P xs i None all is = tt
read_of_all P xs i (Some x) all is = subst P (sym (is.1 x.now)) (all i x.now is.0)
