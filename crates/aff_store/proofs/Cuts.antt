-- Bytes cut into chunks.
use Rattle.std.proofs.Common.{◌≡◌, ℕ, zero, suc, ◌+◌, ◌*◌, ◌/◌, ◌%◌, ◌<◌, ◌≤◌, List, [], ◌∷◌, ◌++◌, length, take, drop, map, refl, sym, ap, ◌∙◌, arith, length-append, length-drop}
use Rattle.std.specs.List.{range_with_len}
use Rattle.std.proofs.Math.Seq.{drop-append_seam}
use Rattle.std.proofs.lemmas.List.{drop-append-le, take-append-le, take_all}
use Rattle.std.proofs.lemmas.List.FromFn.{map-range_with_len_more}
use Rattle.aff_store.specs.Written.{cut_chunks}

chunk_in : List ℕ → ℕ → List ℕ
chunk_in bytes k = take 32768 (drop (32768 * k) bytes)

same_along : (f g : ℕ → List ℕ) (a n : ℕ) → ((k : ℕ) → a ≤ k → k < a + n → f k ≡ g k) → map f (range_with_len a n) ≡ map g (range_with_len a n)
same_along f g a zero same = refl
same_along f g a (suc n) same =
    let first : f a ≡ g a = same a (omega arith) (omega arith) in
    let rest : map f (range_with_len (a + 1) n) ≡ map g (range_with_len (a + 1) n) = same_along f g (a + 1) n (λ k low high. same k (omega (arith, low)) (omega (arith, high))) in
    λ i. first i ∷ rest i

-- an earlier chunk of more bytes
chunk_before : (bytes more : List ℕ) (k : ℕ) → 32768 * k + 32768 ≤ length bytes → chunk_in (bytes ++ more) k ≡ chunk_in bytes k
unfolding chunk_in
chunk_before bytes more k inside =
    let room : 32768 ≤ length (drop (32768 * k) bytes) = omega (arith, length-drop (32768 * k) bytes, inside) in
    ap (take 32768) (drop-append-le (32768 * k) bytes more (omega (arith, inside))) ∙ take-append-le 32768 (drop (32768 * k) bytes) more room

-- a whole chunk more
pub cut_chunks-push : (bytes chunk : List ℕ) → length bytes % 32768 ≡ 0 → length chunk ≡ 32768 → cut_chunks (bytes ++ chunk) ≡ cut_chunks bytes ++ chunk ∷ []
unfolding chunk_in
cut_chunks-push bytes chunk whole one =
    let n : ℕ = length bytes / 32768 in
    let all : length bytes ≡ 32768 * n = omega (arith, whole) in
    let count : length (bytes ++ chunk) / 32768 ≡ n + 1 = omega (arith, length-append bytes chunk, whole, one) in
    let last : chunk_in (bytes ++ chunk) n ≡ chunk =
    ap (λ k. take 32768 (drop k (bytes ++ chunk))) (sym all) ∙ ap (take 32768) (drop-append_seam bytes chunk) ∙ take_all 32768 chunk (omega (arith, one)) in
    let before : map (chunk_in (bytes ++ chunk)) (range_with_len 0 n) ≡ map (chunk_in bytes) (range_with_len 0 n) =
    same_along (chunk_in (bytes ++ chunk)) (chunk_in bytes) 0 n (λ k low high. chunk_before bytes chunk k (omega (arith, high, all))) in
    ap (λ c. map (chunk_in (bytes ++ chunk)) (range_with_len 0 c)) count
    ∙ map-range_with_len_more (chunk_in (bytes ++ chunk)) 0 n n (omega arith)
    ∙ (λ i. before i ++ last i ∷ [])
