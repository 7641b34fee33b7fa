-- The bytes of the number that a list's first bytes are: these bytes again.
use Rattle.std.proofs.Common.{◌≡◌, ℕ, ◌+◌, ◌<◌, ◌≤◌, List, length, take, drop, get_or, sym, ◌∙◌, arith, inl, inr, length-take}
use Rattle.std.specs.Int.{to_le_bytes, from_le_bytes, w64, w32}
use Rattle.std.proofs.lemmas.Bool.{cases_lt}
use Rattle.std.proofs.lemmas.List.{get_or-take, get_or_past, get_or-drop}
use Rattle.std.proofs.lemmas.Nat.{le_bytes_4, le_bytes_8}
use Rattle.byteorder.specs.Endian.{little_number}
use Rattle.byteorder.specs.Numbers.{little_from-take}

-- each element is a byte
pub record AreBytes (xs : List ℕ) : Type 0 where
  pub small : (k : ℕ) → get_or xs k 0 < 256

pub AreBytes-drop : (n : ℕ) (xs : List ℕ) → AreBytes xs → AreBytes (drop n xs)
AreBytes-drop n xs bytes = record { small = λ k. rw (get_or-drop n xs k 0) (bytes.small (n + k)) }

pub AreBytes-take : (n : ℕ) (xs : List ℕ) → AreBytes xs → AreBytes (take n xs)
AreBytes-take n xs bytes = record {
  small = λ k. elim (cases_lt k n) [
    | inl below ↦ rw (get_or-take n xs k 0 below) (bytes.small k)
    | inr past ↦
        let short : length (take n xs) ≤ k = omega (arith, length-take n xs) in
        rw (get_or_past (take n xs) k 0 short) (omega arith)
  ];
}

eight : (xs : List ℕ) → little_number 8 xs ≡ from_le_bytes w64 xs
eight xs = omega arith

four : (xs : List ℕ) → little_number 4 xs ≡ from_le_bytes w32 xs
four xs = omega arith

pub to_le_bytes-eight : (xs : List ℕ) → AreBytes xs → 8 ≤ length xs → to_le_bytes w64 (little_number 8 xs) ≡ take 8 xs
to_le_bytes-eight xs bytes long =
    let len : length (take 8 xs) ≡ 8 = omega (arith, length-take 8 xs) in
    let same : little_number 8 xs ≡ from_le_bytes w64 (take 8 xs) = sym (little_from-take 0 8 8 xs (omega arith)) ∙ eight (take 8 xs) in
    le_bytes_8 (take 8 xs) (little_number 8 xs) len (AreBytes-take 8 xs bytes).small same

pub to_le_bytes-four : (xs : List ℕ) → AreBytes xs → 4 ≤ length xs → to_le_bytes w32 (little_number 4 xs) ≡ take 4 xs
to_le_bytes-four xs bytes long =
    let len : length (take 4 xs) ≡ 4 = omega (arith, length-take 4 xs) in
    let same : little_number 4 xs ≡ from_le_bytes w32 (take 4 xs) = sym (little_from-take 0 4 4 xs (omega arith)) ∙ four (take 4 xs) in
    le_bytes_4 (take 4 xs) (little_number 4 xs) len (AreBytes-take 4 xs bytes).small same
