-- Digests that stand one after another, each found by its number.
use Rattle.std.proofs.Common.{◌≡◌, ℕ, zero, suc, ◌+◌, ◌*◌, ◌/◌, ◌%◌, ◌<◌, List, ◌++◌, length, take, drop, sym, ap, ◌∙◌, arith}
use Rattle.std.specs.List.{flat_map, range_with_len}
use Rattle.std.proofs.Math.Seq.{drop-append-add, take-append_seam}
use Rattle.aff_model.specs.declared.limits.TheConstants.{BEVVY}
use Rattle.aff_spec.specs.Bevvies.{bevvy_count}
use Rattle.aff_spec.specs.BlockHashes.{chunks_in}

-- parts of one length
pub part_is : (f : ℕ → List ℕ) (size : ℕ) → ((k : ℕ) → length (f k) ≡ size) → (a m place : ℕ) → place < m → take size (drop (size * place) (flat_map f (range_with_len a m))) ≡ f (a + place)
part_is f size each a zero place below = absurd (omega (arith, below))
part_is f size each a (suc m) zero below =
    let none : size * 0 ≡ 0 = omega arith in
    let rest : List ℕ = flat_map f (range_with_len (a + 1) m) in
    ap (λ n. take size (drop n (f a ++ rest))) none
    ∙ ap (λ n. take n (f a ++ rest)) (sym (each a))
    ∙ take-append_seam (f a) rest
    ∙ ap f (omega arith)
part_is f size each a (suc m) (suc place) below =
    let rest : List ℕ = flat_map f (range_with_len (a + 1) m) in
    let more : size * suc place ≡ length (f a) + size * place = omega (arith, each a) in
    ap (λ n. take size (drop n (f a ++ rest))) more
    ∙ ap (take size) (drop-append-add (f a) rest (size * place))
    ∙ part_is f size each (a + 1) m place (omega (arith, below))
    ∙ ap f (omega arith)

-- a chunk is one of its bevvy
pub bevvy_low : (n c : ℕ) → c < n → c / BEVVY < bevvy_count n
bevvy_low n c below = omega (arith, below)

pub place_low : (n c : ℕ) → c < n → c % BEVVY < chunks_in n (c / BEVVY)
place_low n c below = omega (arith, below)

pub chunk_number : (c : ℕ) → BEVVY * (c / BEVVY) + c % BEVVY ≡ c
chunk_number c = omega arith
