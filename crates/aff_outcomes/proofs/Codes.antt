-- Statuses of commands by their numbers.
use Rattle.std.proofs.Common.{◌≡◌, ℕ, true, false, refl, sym, subst, arith}
use Rattle.std.specs.Prelude.{⊤, if◌then◌else◌, ◌==◌}
use Rattle.std.proofs.lemmas.Bool.Decides.{nat_tests}
use Rattle.aff_offline.specs.Outcomes.{Status, status_at, done, usage, range, sink, folder, memory, volume, unsound, other}

-- as far as they are told apart here
abbrev pub IsCode : Status → ℕ → Type 0
IsCode done n = n ≡ 0
IsCode range n = n ≡ 3
IsCode memory n = n ≡ 7
IsCode volume n = n ≡ 8
IsCode _ n = ⊤

by_number : (n k : ℕ) (s rest : Status) → IsCode s k → IsCode rest n → IsCode (if n == k then s else rest) n
by_number n k s rest own others =
    elim (n == k) as (λ b. (n == k) ≡ b → IsCode (if b then s else rest) n) [
      | true ↦ λ is. let same : n ≡ k = grind (arith, nat_tests, is) in subst (IsCode s) (sym same) own
      | false ↦ λ is. others
    ] refl

pub code_is : (n : ℕ) → IsCode (status_at n) n
code_is n =
    by_number n 0 done _ refl (by_number n 2 usage _ tt (by_number n 3 range _ refl (by_number n 5 sink _ tt (by_number n 6 folder _ tt
    (by_number n 7 memory _ refl (by_number n 8 volume _ refl (by_number n 9 unsound other tt tt)))))))
