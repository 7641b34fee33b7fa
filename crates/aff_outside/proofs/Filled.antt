-- How much of a buffer holds what is stored from an offset on.
use Rattle.std.proofs.Common.{◌≡◌, ℕ, ◌+◌, ◌-◌, ◌%◌, ◌≤◌, List, ◌++◌, length, take, drop, sym, ap, ◌∙◌, subst, arith, inl, inr, refl}
use Rattle.std.proofs.lemmas.List.{take-take, drop-drop, take-append-le, length-take-le}
use Rattle.std.proofs.Math.Seq.{take-append-add}
use Rattle.std.specs.Prelude.{Option, None, Some, IfSome}
use borrow.Rule.Slice.PartMut.{put_mid, mid_of, post_of, same_len_mid, mid_len}
use Rattle.aff_model.specs.Content.{IsBlock}
use Rattle.aff_outside.proofs.Written.{two_parts}

-- the first bytes of the buffer, which are whole blocks, are those that are stored
pub record IsFilled (stored : Option (List ℕ)) (offset block : ℕ) (out : List ℕ) (done : ℕ) : Type 0 where
  pub inside : done ≤ length out
  pub whole : done % block ≡ 0
  pub bytes : IfSome stored (λ xs. take done out ≡ take done (drop offset xs))

pub whole_sum : (block n k : ℕ) → IsBlock block → n % block ≡ 0 → k % block ≡ 0 → (n + k) % block ≡ 0
whole_sum block n k (inl e) h g = subst (λ b. n % b ≡ 0 → k % b ≡ 0 → (n + k) % b ≡ 0) (sym e) (λ h g. omega (arith, h, g)) h g
whole_sum block n k (inr e) h g = subst (λ b. n % b ≡ 0 → k % b ≡ 0 → (n + k) % b ≡ 0) (sym e) (λ h g. omega (arith, h, g)) h g

no_part : (block : ℕ) → IsBlock block → 0 % block ≡ 0
no_part block (inl e) = subst (λ b. 0 % b ≡ 0) (sym e) (omega arith)
no_part block (inr e) = subst (λ b. 0 % b ≡ 0) (sym e) (omega arith)

-- the front of a buffer, of which the rest was written
front_of : (out new : List ℕ) (n k : ℕ) → n ≤ length out → k ≤ length new → take (n + k) (put_mid n (length out - n) out new) ≡ take n out ++ take k new
front_of out new n k inside fits =
    let rest = new ++ post_of n (length out - n) out in
    ap (λ m. take (m + k) (take n out ++ rest)) (sym (length-take-le n out inside))
    ∙ take-append-add (take n out) rest k
    ∙ ap (λ t. take n out ++ t) (take-append-le k new (post_of n (length out - n) out) fits)

told_more : (xs out new : List ℕ) (offset n k count : ℕ) → n ≤ length out → k ≤ count → count ≤ length new → take n out ≡ take n (drop offset xs) → take count new ≡ take count (drop (offset + n) xs)
    → take (n + k) (put_mid n (length out - n) out new) ≡ take (n + k) (drop offset xs)
told_more xs out new offset n k count inside part fits before more =
    let own : take k new ≡ take k (drop n (drop offset xs)) =
    sym (take-take k count new part) ∙ ap (take k) more ∙ take-take k count (drop (offset + n) xs) part ∙ ap (take k) (sym (drop-drop n offset xs)) in
    front_of out new n k inside (omega (arith, part, fits))
    ∙ ap (λ t. t ++ take k new) before ∙ ap (λ t. take n (drop offset xs) ++ t) own
    ∙ two_parts (drop offset xs) n k

-- k bytes more, whole blocks of the count that was read
pub filled_more : (stored : Option (List ℕ)) (offset block : ℕ) (out new : List ℕ) (n k count now : ℕ) → IsBlock block → now ≡ n + k → k ≤ count → k % block ≡ 0 → count ≤ length new → length new ≡ length (mid_of n (length out - n) out)
    → IsFilled stored offset block out n → IfSome stored (λ xs. take count new ≡ take count (drop (offset + n) xs)) → IsFilled stored offset block (put_mid n (length out - n) out new) now
filled_more stored offset block out new n k count now is sum part whole fits len before more =
    let P : ℕ → Type 0 = λ m. IsFilled stored offset block (put_mid n (length out - n) out new) m in
    subst P (sym sum) (record {
      inside =
          let rest : length new ≡ length out - n = len ∙ mid_len n (length out) out (omega arith) in
          omega (arith, before.inside, part, fits, rest, same_len_mid n (length out - n) out new len);
      whole = whole_sum block n k is before.whole whole;
      bytes = elim stored as (λ o. IfSome o (λ xs. take n out ≡ take n (drop offset xs)) → IfSome o (λ xs. take count new ≡ take count (drop (offset + n) xs)) → IfSome o (λ xs. take (n + k) (put_mid n (length out - n) out new) ≡ take (n + k) (drop offset xs))) [
        | None ↦ λ a b. tt
        | Some xs ↦ λ a b. told_more xs out new offset n k count before.inside part fits a b
      ] before.bytes more;
    })

-- the buffer may hold anything behind what was filled
pub filled_still : (stored : Option (List ℕ)) (offset block : ℕ) (out new : List ℕ) (n now : ℕ) → IsBlock block → now ≡ n → length new ≡ length (mid_of n (length out - n) out) → IsFilled stored offset block out n
    → IsFilled stored offset block (put_mid n (length out - n) out new) now
filled_still stored offset block out new n now is same len before =
    filled_more stored offset block out new n 0 0 now is (omega (arith, same)) (omega arith) (no_part block is) (omega arith) len before
    (elim stored as (λ o. IfSome o (λ xs. take 0 new ≡ take 0 (drop (offset + n) xs))) [ None ↦ tt | Some xs ↦ refl ])
