-- A list that is cut at the first element that passes.
use Rattle.std.proofs.Common.{◌≡◌, ℕ, ◌+◌, ◌-◌, ◌<◌, ◌≤◌, ◌==◌, Bool, true, false, not, cond, nat_lt, List, [], ◌∷◌, length, get_or, take, drop, refl, sym, ap, ◌∙◌, subst, arith, All}
use Rattle.std.specs.Prelude.{position, Some, None}
use Rattle.std.specs.List.{slice_split, position_or_len}
use Rattle.std.proofs.lemmas.Bool.Decides.{nat_tests}
use Rattle.std.proofs.lemmas.List.{take_rest}
use Rattle.std.proofs.lemmas.List.Splits.{slice_split_first, slice_split_none}
use Rattle.std.proofs.lemmas.List.Sums.{fails_before_first}

module _ (p : ℕ → Bool) (xs : List ℕ) where
  within : nat_lt (position_or_len p xs) (length xs) ≡ true → position_or_len p xs < length xs
  within test = grind (arith, nat_tests, test)

  behind : nat_lt (position_or_len p xs) (length xs) ≡ false → length xs ≤ position_or_len p xs
  behind test = grind (arith, nat_tests, test)

  some_if : (t : Bool) (place : ℕ) → nat_lt (position_or_len p xs) (length xs) ≡ t → cond t (Some (position_or_len p xs)) None ≡ Some place
      → (position_or_len p xs < length xs) × (position_or_len p xs ≡ place)
  some_if true place test is = (within test, cc)
  some_if false place test is = absurd (cc is)

  none_if : (t : Bool) → nat_lt (position_or_len p xs) (length xs) ≡ t → cond t (Some (position_or_len p xs)) None ≡ None → length xs ≤ position_or_len p xs
  none_if true test is = absurd (cc is)
  none_if false test is = behind test

  -- what stands before the place, and what behind it
  pub split_at_place : (place : ℕ) → position p xs ≡ Some place → slice_split p xs ≡ take place xs ∷ slice_split p (take (length xs - (place + 1)) (drop (place + 1) xs))
  split_at_place place is =
      let found = some_if (nat_lt (position_or_len p xs) (length xs)) place refl is in
      let parts = slice_split_first p xs 0 found.0 in
      subst (λ n. slice_split p xs ≡ take n xs ∷ slice_split p (take (length xs - (n + 1)) (drop (n + 1) xs))) found.1
      (parts ∙ ap (λ ys. take (position_or_len p xs) xs ∷ slice_split p ys) (sym (take_rest xs (position_or_len p xs + 1))))

  -- where no element passes, the list is its one part
  pub split_nowhere : position p xs ≡ None → slice_split p xs ≡ xs ∷ []
  split_nowhere is =
      let all = none_if (nat_lt (position_or_len p xs) (length xs)) refl is in
      slice_split_none p xs (λ k d below. fails_before_first p xs k d (omega arith))
