-- The state after a message's whole blocks and its end gives its digest.
use Rattle.std.proofs.Common.{◌≡◌, ℕ, ◌+◌, ◌*◌, ◌/◌, ◌%◌, ◌^◌, List, ◌++◌, length, refl, ap, ◌∙◌, w64}
use Rattle.std.specs.Int.{to_be_bytes, to_le_bytes}
use Rattle.md5.specs.Md5.{md5}
use Rattle.md5.specs.Md5 as M
use Rattle.sha1.specs.Sha1.{sha1}
use Rattle.sha1.specs.Sha1 as S
use Rattle.sha2.specs.Sha256.{initial_hash_256, sha256}
use Rattle.sha2.specs.Sha256 as T
use Rattle.aff_lanes.specs.Messages.{end_count, HasBlocks, IsEnd}
use Rattle.aff_lanes.proofs.Padding.{pad, first_blocks, last_blocks, blocks_padded}

pub md5_done : (m bits end h g : List ℕ) (n k : ℕ) → n ≡ length m → k ≡ end_count n → bits ≡ to_le_bytes w64 (n * 8 % 2 ^ 64) → IsEnd m bits end
    → ((whole : List ℕ) (q : ℕ) → M.initial_hash ≡ M.hash_after whole q → HasBlocks whole q (n / 64) m → h ≡ M.hash_after whole (q + n / 64))
    → ((whole : List ℕ) (q : ℕ) → h ≡ M.hash_after whole q → HasBlocks whole q k end → g ≡ M.hash_after whole (q + k))
    → M.digest_bytes g 4 ≡ md5 m
unfolding md5 M.hash_after
md5_done m bits end h g n k len ek eb is first last =
    let bits' : bits ≡ to_le_bytes w64 (length m * 8 % 2 ^ 64) = rw (← len) eb in
    let lb : length bits ≡ 8 = rw bits' refl in
    let p : List ℕ = m ++ pad m bits in
    let h' : h ≡ M.hash_after p (0 + length m / 64) = rw len at (first p 0 refl (rw len (first_blocks m (pad m bits)))) in
    let g' : g ≡ M.hash_after p (0 + length m / 64 + end_count (length m)) = rw (ek, len) at (last p (0 + length m / 64) h' (rw (ek, len) (last_blocks m bits end lb is))) in
    ap (λ (s : List ℕ). M.digest_bytes s 4) (g' ∙ ap (M.hash_after p) (blocks_padded m bits lb)) ∙ rw bits' refl

pub sha1_done : (m bits end h g : List ℕ) (n k : ℕ) → n ≡ length m → k ≡ end_count n → bits ≡ to_be_bytes w64 (n * 8 % 2 ^ 64) → IsEnd m bits end
    → ((whole : List ℕ) (q : ℕ) → S.initial_hash ≡ S.hash_after whole q → HasBlocks whole q (n / 64) m → h ≡ S.hash_after whole (q + n / 64))
    → ((whole : List ℕ) (q : ℕ) → h ≡ S.hash_after whole q → HasBlocks whole q k end → g ≡ S.hash_after whole (q + k))
    → S.digest_bytes g 5 ≡ sha1 m
unfolding sha1 S.hash_after
sha1_done m bits end h g n k len ek eb is first last =
    let bits' : bits ≡ to_be_bytes w64 (length m * 8 % 2 ^ 64) = rw (← len) eb in
    let lb : length bits ≡ 8 = rw bits' refl in
    let p : List ℕ = m ++ pad m bits in
    let h' : h ≡ S.hash_after p (0 + length m / 64) = rw len at (first p 0 refl (rw len (first_blocks m (pad m bits)))) in
    let g' : g ≡ S.hash_after p (0 + length m / 64 + end_count (length m)) = rw (ek, len) at (last p (0 + length m / 64) h' (rw (ek, len) (last_blocks m bits end lb is))) in
    ap (λ (s : List ℕ). S.digest_bytes s 5) (g' ∙ ap (S.hash_after p) (blocks_padded m bits lb)) ∙ rw bits' refl

pub sha256_done : (m bits end h g : List ℕ) (n k : ℕ) → n ≡ length m → k ≡ end_count n → bits ≡ to_be_bytes w64 (n * 8 % 2 ^ 64) → IsEnd m bits end
    → ((whole : List ℕ) (q : ℕ) → initial_hash_256 ≡ T.hash_after initial_hash_256 whole q → HasBlocks whole q (n / 64) m → h ≡ T.hash_after initial_hash_256 whole (q + n / 64))
    → ((whole : List ℕ) (q : ℕ) → h ≡ T.hash_after initial_hash_256 whole q → HasBlocks whole q k end → g ≡ T.hash_after initial_hash_256 whole (q + k))
    → T.digest_bytes g 8 ≡ sha256 m
unfolding sha256 T.hash_after
sha256_done m bits end h g n k len ek eb is first last =
    let bits' : bits ≡ to_be_bytes w64 (length m * 8 % 2 ^ 64) = rw (← len) eb in
    let lb : length bits ≡ 8 = rw bits' refl in
    let p : List ℕ = m ++ pad m bits in
    let h' : h ≡ T.hash_after initial_hash_256 p (0 + length m / 64) = rw len at (first p 0 refl (rw len (first_blocks m (pad m bits)))) in
    let g' : g ≡ T.hash_after initial_hash_256 p (0 + length m / 64 + end_count (length m)) = rw (ek, len) at (last p (0 + length m / 64) h' (rw (ek, len) (last_blocks m bits end lb is))) in
    ap (λ (s : List ℕ). T.digest_bytes s 8) (g' ∙ ap (T.hash_after initial_hash_256 p) (blocks_padded m bits lb)) ∙ rw bits' refl
