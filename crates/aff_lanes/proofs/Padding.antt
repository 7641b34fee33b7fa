-- The blocks in which a message ends are the last ones of the padded message.
use Rattle.std.proofs.Common.{◌≡◌, ℕ, suc, ◌<◌, ◌≤◌, ◌+◌, ◌-◌, ◌*◌, ◌/◌, ◌%◌, List, ◌∷◌, ◌++◌, take, drop, length, replicate, slice_set, arith, refl, sym, ap, ◌∙◌, length-append, length-drop, add-one}
use Rattle.std.proofs.lemmas.List.{append_assoc, drop-append-le, drop-replicate, length-replicate, take-append-le, take-replicate, take_all}
use Rattle.std.proofs.lemmas.Slice.{take-put_mid}
use Rattle.std.proofs.Math.Seq.{set-append_seam, take-append-add}
use Rattle.aff_lanes.specs.Messages.{end_count, HasBlocks, IsEnd}
use borrow.Rule.Slice.PartMut.{put_mid}

-- a byte behind some bytes, and zeros
pub mark : (rest ys : List ℕ) → ys ≡ rest → length rest < 64
    → slice_set (ys ++ drop (length rest) (replicate 128 0)) (length rest) 128 ≡ rest ++ 128 ∷ replicate (127 - length rest) 0
mark rest ys e low =
    let n : 128 - length rest ≡ suc (127 - length rest) = omega arith in
    rw (e, drop-replicate {X = ℕ} (length rest) 128 0, n) (set-append_seam rest 0 (replicate (127 - length rest) 0) 128)

-- the byte, and the first zeros
pub take-mark : (z k : ℕ) → z ≤ k → take {A = ℕ} (z + 1) (128 ∷ replicate k 0) ≡ 128 ∷ replicate z 0
take-mark z k fits = rw add-one (ap (λ (t : List ℕ). 128 ∷ t) (take-replicate z k 0 fits))

-- the length behind the zeros
put_length : (rest end ys bits : List ℕ) (at k z n : ℕ) → end ≡ rest ++ 128 ∷ replicate (127 - length rest) 0 → ys ≡ bits → length bits ≡ 8
    → length rest < 64 → z ≡ (119 - length rest) % 64 → at ≡ length rest + (z + 1) → n ≡ at + 8
    → take n (put_mid at k end ys) ≡ rest ++ (128 ∷ replicate z 0 ++ bits)
put_length rest end ys bits at k z n ee ey lb low ez ea en =
    let fits : z ≤ 127 - length rest = omega arith in
    let len : length end ≡ 128 = rw ee (omega (arith, length-append rest (128 ∷ replicate (127 - length rest) 0), length-replicate {A = ℕ} (127 - length rest) 0)) in
    let front = take-put_mid at k end ys n (rw ey (omega arith)) (omega arith) in
    let all : List ℕ = 128 ∷ replicate (127 - length rest) 0 in
    let some : List ℕ = 128 ∷ replicate z 0 in
    front ∙ rw (ee, ea, take-append-add rest all (z + 1), take-mark z (127 - length rest) fits, ey) (append_assoc rest some bits)

pub end_of_rest : (m rest end ys bits : List ℕ) (at k : ℕ) → rest ≡ drop (length m / 64 * 64) m → end ≡ rest ++ 128 ∷ replicate (127 - length rest) 0
    → ys ≡ bits → length bits ≡ 8 → at ≡ 64 * end_count (length m) - 8 → IsEnd m bits (put_mid at k end ys)
end_of_rest m rest end ys bits at k er ee ey lb ea =
    let len : length rest ≡ length m % 64 = rw er (omega (arith, length-drop (length m / 64 * 64) m)) in
    put_length rest end ys bits at k ((119 - length m % 64) % 64) (64 * end_count (length m)) ee ey lb (omega arith) (rw len refl) (omega arith) (omega arith)
    ∙ rw er refl

-- the padded message begins with the message's whole blocks
pub first_blocks : (m p : List ℕ) → HasBlocks (m ++ p) 0 (length m / 64) m
first_blocks m p = sym (take-append-le (64 * (length m / 64)) m p (omega arith))

-- and ends with its end
module _ (m bits : List ℕ) where
  abbrev pub pad : List ℕ
  pad = 128 ∷ replicate ((119 - length m % 64) % 64) 0 ++ bits

  pub length-pad : length bits ≡ 8 → length pad ≡ (119 - length m % 64) % 64 + 9
  length-pad lb = omega (arith, length-append (128 ∷ replicate ((119 - length m % 64) % 64) 0) bits, length-replicate {A = ℕ} ((119 - length m % 64) % 64) 0)

  pub last_blocks : (end : List ℕ) → length bits ≡ 8 → IsEnd m bits end → HasBlocks (m ++ pad) (0 + length m / 64) (end_count (length m)) end
  last_blocks end lb is =
      let q : ℕ = length m / 64 in
      let rest : List ℕ = drop (q * 64) m in
      let at : (0 + q) * 64 ≡ q * 64 = omega arith in
      let tail : drop (q * 64) (m ++ pad) ≡ rest ++ pad = drop-append-le (q * 64) m pad (omega arith) in
      let len : length (rest ++ pad) ≡ 64 * end_count (length m) = omega (arith, length-append rest pad, length-drop (q * 64) m, length-pad lb) in
      is ∙ rw (at, tail) (sym (take_all (64 * end_count (length m)) (rest ++ pad) (omega arith)))

  pub blocks_padded : length bits ≡ 8 → 0 + length m / 64 + end_count (length m) ≡ length (m ++ pad) / 64
  blocks_padded lb = omega (arith, length-append m pad, length-pad lb)
