-- How much of the bytes was written so far.
use Rattle.std.proofs.Common.{◌≡◌, ℕ, ◌+◌, ◌-◌, ◌≤◌, List, ◌++◌, length, take, drop, sym, ap, ◌∙◌, subst, arith, take-append-drop, length-drop}
use Rattle.std.proofs.lemmas.List.{drop-take, take_rest, take-take}
use Rattle.std.specs.Prelude.{Option}
use Rattle.std.specs.Io.KnownBytes.{Appends, Keeps}
use Rattle.std.proofs.KnownBytes.{Appends-trans, Appends-kept}

-- known bytes a became b by the first n bytes
pub record IsWritten (a b : Option (List ℕ)) (bytes : List ℕ) (n : ℕ) : Type 0 where
  pub inside : n ≤ length bytes
  pub front : Appends a b (take n bytes)

pub two_parts : (bytes : List ℕ) (n k : ℕ) → take n bytes ++ take k (drop n bytes) ≡ take (n + k) bytes
two_parts bytes n k =
    ap (λ t. take n bytes ++ t) (sym (drop-take n k bytes)) ∙ ap (λ t. t ++ drop n (take (n + k) bytes)) (sym (take-take n (n + k) bytes (omega arith))) ∙ take-append-drop n (take (n + k) bytes)

-- k bytes more were written, of those that are left behind the first n
pub part_more : (a b c : Option (List ℕ)) (bytes : List ℕ) (n k now : ℕ) → now ≡ n + k → k ≤ length (take (length bytes - n) (drop n bytes)) → IsWritten a b bytes n
    → Appends b c (take k (take (length bytes - n) (drop n bytes))) → IsWritten a c bytes now
part_more a b c bytes n k now is fits before more =
    let rest : take (length bytes - n) (drop n bytes) ≡ drop n bytes = take_rest bytes n in
    let room : k ≤ length (drop n bytes) = subst (λ t. k ≤ length t) rest fits in
    record {
      inside = omega (arith, before.inside, is, room, length-drop n bytes);
      front = subst (λ m. Appends a c (take m bytes)) (sym is) (subst (Appends a c) (ap (λ t. take n bytes ++ take k t) rest ∙ two_parts bytes n k) (Appends-trans a b c _ _ before.front more));
    }

-- nothing more was written
pub part_kept : (a b c : Option (List ℕ)) (bytes : List ℕ) (n now : ℕ) → now ≡ n → IsWritten a b bytes n → Keeps b c → IsWritten a c bytes now
part_kept a b c bytes n now is before kept = record {
  inside = omega (arith, before.inside, is);
  front = subst (λ m. Appends a c (take m bytes)) (sym is) (Appends-kept a b c _ before.front kept);
}
