-- Whole blocks of either size: sums, halves, and the sectors of one.
use Rattle.std.proofs.Common.{◌≡◌, ℕ, ◌+◌, ◌-◌, ◌*◌, ◌/◌, ◌%◌, ◌<◌, ◌≤◌, inl, inr, List, [], ◌∷◌, ◌++◌, length, get_or, refl, sym, ap, ◌∙◌, subst, arith, add-one, append_assoc}
use Rattle.std.proofs.lemmas.List.FromFn.{length-range_with_len, get_or-range_with_len, map-range_with_len_more}
use Rattle.std.proofs.lemmas.List.{map-id}
use Rattle.std.specs.Prelude.{Contains}
use Rattle.std.specs.List.{range_with_len}
use Rattle.std.specs.List.Sorted.{IsStrictlyIncreasing}
use Rattle.aff_model.specs.declared.limits.TheConstants.{SECTOR, LARGE_BLOCK}
use Rattle.aff_model.specs.Content.{IsBlock, block_of}

-- what holds for either size
pub either : (P : ℕ → Type 0) (block : ℕ) → IsBlock block → P SECTOR → P LARGE_BLOCK → P block
either P block (inl e) p q = subst P (sym e) p
either P block (inr e) p q = subst P (sym e) q

pub whole_none : (block : ℕ) → IsBlock block → 0 % block ≡ 0
whole_none block is = either (λ b. 0 % b ≡ 0) block is (omega arith) (omega arith)

pub blocks_none : (block : ℕ) → IsBlock block → 0 / block ≡ 0
blocks_none block is = either (λ b. 0 / b ≡ 0) block is (omega arith) (omega arith)

pub whole_sum : (block n k : ℕ) → IsBlock block → n % block ≡ 0 → k % block ≡ 0 → (n + k) % block ≡ 0
whole_sum block n k is = either (λ b. n % b ≡ 0 → k % b ≡ 0 → (n + k) % b ≡ 0) block is (λ h g. omega (arith, h, g)) (λ h g. omega (arith, h, g))

pub blocks_sum : (block a b : ℕ) → IsBlock block → SECTOR * a % block ≡ 0 → SECTOR * b % block ≡ 0 → SECTOR * (a + b) / block ≡ SECTOR * a / block + SECTOR * b / block
blocks_sum block a b is =
    either (λ k. SECTOR * a % k ≡ 0 → SECTOR * b % k ≡ 0 → SECTOR * (a + b) / k ≡ SECTOR * a / k + SECTOR * b / k) block is (λ h g. omega (arith, h, g)) (λ h g. omega (arith, h, g))

-- a length of one block, of no block
pub one_block : (block len : ℕ) → IsBlock block → len % block ≡ 0 → len / block ≡ 1 → len ≡ block
one_block block len is = either (λ b. len % b ≡ 0 → len / b ≡ 1 → len ≡ b) block is (λ h g. omega (arith, h, g)) (λ h g. omega (arith, h, g))

pub no_block : (block len : ℕ) → IsBlock block → len % block ≡ 0 → len / block ≡ 0 → len ≡ 0
no_block block len is = either (λ b. len % b ≡ 0 → len / b ≡ 0 → len ≡ 0) block is (λ h g. omega (arith, h, g)) (λ h g. omega (arith, h, g))

pub whole_sectors : (block len : ℕ) → IsBlock block → len % block ≡ 0 → len % SECTOR ≡ 0
whole_sectors block len is = either (λ b. len % b ≡ 0 → len % SECTOR ≡ 0) block is (λ h. h) (λ h. omega (arith, h))

-- the sectors of a block are together
pub same_block : (block start first s t : ℕ) → IsBlock block → start % block ≡ 0 → SECTOR * first % block ≡ 0 → first ≤ s → SECTOR * s < SECTOR * first + block → first ≤ t → SECTOR * t < SECTOR * first + block
    → block_of block (start / SECTOR + s) ≡ block_of block (start / SECTOR + t)
same_block block start first s t is =
    either (λ b. start % b ≡ 0 → SECTOR * first % b ≡ 0 → first ≤ s → SECTOR * s < SECTOR * first + b → first ≤ t → SECTOR * t < SECTOR * first + b → block_of b (start / SECTOR + s) ≡ block_of b (start / SECTOR + t))
    block is (λ a f l h m k. omega (arith, a, f, l, h, m, k)) (λ a f l h m k. omega (arith, a, f, l, h, m, k))

-- sectors on either side of a block's edge are of two blocks
pub other_block : (block start edge s t : ℕ) → IsBlock block → start % block ≡ 0 → SECTOR * edge % block ≡ 0 → s < edge → edge ≤ t → block_of block (start / SECTOR + s) ≡ block_of block (start / SECTOR + t) → ⊥
other_block block start edge s t is =
    either (λ b. start % b ≡ 0 → SECTOR * edge % b ≡ 0 → s < edge → edge ≤ t → block_of b (start / SECTOR + s) ≡ block_of b (start / SECTOR + t) → ⊥)
    block is (λ a f l h e. omega (arith, a, f, l, h, e)) (λ a f l h e. omega (arith, a, f, l, h, e))

-- numbers in a row
pub in_row : (first n s : ℕ) → Contains (range_with_len first n) s → (first ≤ s) × (s < first + n)
in_row first n s h =
    let below : h.0 < n = omega (arith, h.1, length-range_with_len first n) in
    let is : s ≡ first + h.0 = sym h.2 ∙ get_or-range_with_len first n h.0 s below in
    (omega (arith, is), omega (arith, is, below))

pub has_in_row : (first n s : ℕ) → first ≤ s → s < first + n → Contains (range_with_len first n) s
has_in_row first n s low high =
    let below : s - first < n = omega (arith, low, high) in
    (s - first, omega (arith, below, length-range_with_len first n), get_or-range_with_len first n (s - first) s below ∙ omega (arith, low))

pub row_rises : (first n : ℕ) → IsStrictlyIncreasing (range_with_len first n)
row_rises first n k h =
    let low : k < n = omega (arith, h, length-range_with_len first n) in
    let high : k + 1 < n = omega (arith, h, length-range_with_len first n) in
    let a = get_or-range_with_len first n k 0 low in
    let b = get_or-range_with_len first n (k + 1) 0 high in
    omega (arith, a, b)

pub row_more : (first n : ℕ) → range_with_len first (n + 1) ≡ range_with_len first n ++ (first + n) ∷ []
row_more first n =
    sym (map-id (range_with_len first (n + 1))) ∙ map-range_with_len_more (λ k. k) first n (first + n) refl ∙ ap (λ l. l ++ (first + n) ∷ []) (map-id (range_with_len first n))

-- one number more behind those before
pub marked_more : (old now : List ℕ) (first i x : ℕ) → now ≡ old ++ range_with_len first i → x ≡ first + i → now ++ x ∷ [] ≡ old ++ range_with_len first (i + 1)
marked_more old now first i x is e =
    ap (λ t. t ++ x ∷ []) is ∙ append_assoc old (range_with_len first i) (x ∷ []) ∙ ap (λ y. old ++ (range_with_len first i ++ y ∷ [])) e ∙ ap (λ t. old ++ t) (sym (row_more first i))
