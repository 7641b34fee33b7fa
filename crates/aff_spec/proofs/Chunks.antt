-- Chunks of some bytes.
use Rattle.std.proofs.Common.{◌≡◌, ℕ, zero, suc, ◌+◌, ◌-◌, ◌*◌, ◌<◌, ◌≤◌, List, [], ◌∷◌, ◌++◌, length, take, drop, get_or, refl, sym, ap, ◌∙◌, arith, length-append, length-take, length-drop}
use Rattle.std.specs.Prelude.{slice_index, slice_get, Some, replicate}
use Rattle.std.specs.List.{concat, AllByRecursion}
use Rattle.std.proofs.Math.ListN.{get_or-append}
use Rattle.std.proofs.lemmas.List.{get_or-take, get_or-drop, length-replicate}
use Rattle.std.proofs.Math.Seq.{take-append_seam, drop-append-add}
use Rattle.std.proofs.lemmas.Option.{slice_get-get_or}
use Rattle.aff_model.specs.declared.publication.Place.{Place}
use Rattle.aff_model.specs.declared.publication.Place.TheVariants.{Zero, Chunk, Nothing}
use Rattle.aff_model.specs.Legal.{numbers_of}
use Rattle.aff_spec.specs.Chunks.{padded, chunk_at, chunks_from}

pub length-padded : (bytes : List ℕ) → length bytes ≤ 32768 → length (padded bytes) ≡ 32768
unfolding padded
length-padded bytes short = omega (arith, length-append bytes (replicate (32768 - length bytes) 0), length-replicate {A = ℕ} (32768 - length bytes) 0)

pub get_or-padded : (bytes : List ℕ) (k : ℕ) → k < length bytes → get_or (padded bytes) k 0 ≡ get_or bytes k 0
unfolding padded
get_or-padded bytes k below = get_or-append bytes (replicate (32768 - length bytes) 0) 0 k below

-- a chunk is 32,768 bytes long
pub length-chunk_at : (bytes : List ℕ) (j : ℕ) → length (chunk_at bytes j) ≡ 32768
length-chunk_at bytes j = length-padded (take 32768 (drop (32768 * j) bytes)) (omega (arith, length-take 32768 (drop (32768 * j) bytes)))

-- a byte of a chunk
pub chunk_byte : (bytes : List ℕ) (j r : ℕ) → r < 32768 → 32768 * j + r < length bytes → slice_get (chunk_at bytes j) r ≡ Some (slice_index bytes (32768 * j + r))
chunk_byte bytes j r low below =
    let part = take 32768 (drop (32768 * j) bytes) in
    let inside : r < length part = omega (arith, length-take 32768 (drop (32768 * j) bytes), length-drop (32768 * j) bytes) in
    let long : r < length (chunk_at bytes j) = omega (arith, length-chunk_at bytes j) in
    slice_get-get_or (chunk_at bytes j) r 0 long
    ∙ ap Some (get_or-padded part r inside ∙ get_or-take 32768 (drop (32768 * j) bytes) r 0 low ∙ get_or-drop (32768 * j) bytes r 0)

-- as many chunks are stored as have numbers
pub length-chunks_from : (bytes : List ℕ) (j : ℕ) (places : List Place) → length (chunks_from bytes j places) ≡ length (numbers_of places)
length-chunks_from bytes j [] = refl
length-chunks_from bytes j (Zero ∷ places) = length-chunks_from bytes (suc j) places
length-chunks_from bytes j (Nothing ∷ places) = length-chunks_from bytes (suc j) places
length-chunks_from bytes j (Chunk c ∷ places) = ap suc (length-chunks_from bytes (suc j) places)

-- some chunks and those behind them
pub chunks_from-append : (bytes : List ℕ) (j n : ℕ) (xs ys : List Place) → n ≡ j + length xs → chunks_from bytes j (xs ++ ys) ≡ chunks_from bytes j xs ++ chunks_from bytes n ys
chunks_from-append bytes j n [] ys at = ap (λ k. chunks_from bytes k ys) (omega (arith, at))
chunks_from-append bytes j n (Zero ∷ xs) ys at = chunks_from-append bytes (suc j) n xs ys (omega (arith, at))
chunks_from-append bytes j n (Nothing ∷ xs) ys at = chunks_from-append bytes (suc j) n xs ys (omega (arith, at))
chunks_from-append bytes j n (Chunk c ∷ xs) ys at = ap (λ v. chunk_at bytes j ∷ v) (chunks_from-append bytes (suc j) n xs ys (omega (arith, at)))

pub numbers_of-append : (xs ys : List Place) → numbers_of (xs ++ ys) ≡ numbers_of xs ++ numbers_of ys
numbers_of-append [] ys = refl
numbers_of-append (Zero ∷ xs) ys = numbers_of-append xs ys
numbers_of-append (Nothing ∷ xs) ys = numbers_of-append xs ys
numbers_of-append (Chunk c ∷ xs) ys = ap (λ v. c ∷ v) (numbers_of-append xs ys)

-- pieces of the length of a chunk
unfoldable pub AreChunks : List (List ℕ) → Type 0
AreChunks pieces = AllByRecursion (λ piece. length piece ≡ 32768) pieces

-- chunk k of pieces that stand one after another
pub chunk_of_concat : (pieces : List (List ℕ)) (k : ℕ) → AreChunks pieces → k < length pieces → take 32768 (drop (32768 * k) (concat pieces)) ≡ get_or pieces k []
unfolding AreChunks
chunk_of_concat [] k all below = absurd (omega (arith, below))
chunk_of_concat (p ∷ pieces) zero all below =
    let none : 32768 * 0 ≡ 0 = omega arith in
    ap (λ n. take 32768 (drop n (p ++ concat pieces))) none ∙ ap (λ n. take n (p ++ concat pieces)) (sym all.0) ∙ take-append_seam p (concat pieces)
chunk_of_concat (p ∷ pieces) (suc k) all below =
    let more : 32768 * suc k ≡ length p + 32768 * k = omega (arith, all.0) in
    ap (λ n. take 32768 (drop n (p ++ concat pieces))) more
    ∙ ap (take 32768) (drop-append-add p (concat pieces) (32768 * k))
    ∙ chunk_of_concat pieces k all.1 (omega (arith, below))
