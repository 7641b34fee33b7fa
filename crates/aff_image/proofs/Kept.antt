-- The chunks that readings keep: how many, how long, and which of them a place is.
use Rattle.std.proofs.Common.{◌≡◌, ℕ, zero, suc, ◌+◌, ◌*◌, ◌<◌, List, [], ◌∷◌, ◌++◌, length, get_or, refl, sym, ap, ◌∙◌, arith, length-append}
use Rattle.std.specs.Prelude.{Option, Some, All, slice_get, slice_index}
use Rattle.std.specs.List.{range_with_len}
use Rattle.std.proofs.Math.ListN.{get_or-append}
use Rattle.std.proofs.lemmas.List.{get_or-append-add}
use Rattle.std.proofs.lemmas.List.Elements.{All-append, All-cons, All-nil}
use Rattle.std.proofs.lemmas.List.FromFn.{get_or-range_with_len}
use Rattle.aff_model.specs.declared.publication.Place.{Place}
use Rattle.aff_model.specs.declared.publication.Place.TheVariants.{Zero, Chunk, Nothing}
use Rattle.aff_model.specs.Legal.{numbers_of, chunk_numbers}
use Rattle.aff_spec.specs.Chunks.{chunk_at, chunks_from, stored_chunks}
use Rattle.aff_spec.proofs.Chunks.{chunk_byte, length-chunk_at, length-chunks_from}
use Rattle.aff_spec.proofs.Streams.{ReadsAs}
use Rattle.aff_image.specs.Witnesses.{Witnessed, history_of, kept_of, kept_chunks}

pub length-kept_of : (r : Witnessed) → length (kept_of r) ≡ length (numbers_of r.published.places)
length-kept_of r = length-chunks_from r.bytes 0 r.published.places

-- as many chunks are kept as have numbers
pub length-kept_chunks : (readings : List Witnessed) → length (kept_chunks readings) ≡ length (chunk_numbers (history_of readings))
length-kept_chunks [] = refl
length-kept_chunks (r ∷ readings) =
    omega (arith, length-append (kept_of r) (kept_chunks readings), length-append (numbers_of r.published.places) (chunk_numbers (history_of readings)), length-kept_of r, length-kept_chunks readings)

-- each of the length of a chunk
abbrev pub HasWholeChunks : List ℕ → Type 0
HasWholeChunks chunk = length chunk ≡ 32768

whole_from : (bytes : List ℕ) (j : ℕ) (places : List Place) → All HasWholeChunks (chunks_from bytes j places)
whole_from bytes j [] = All-nil HasWholeChunks
whole_from bytes j (Zero ∷ places) = whole_from bytes (suc j) places
whole_from bytes j (Nothing ∷ places) = whole_from bytes (suc j) places
whole_from bytes j (Chunk c ∷ places) = All-cons HasWholeChunks (chunk_at bytes j) (chunks_from bytes (suc j) places) (length-chunk_at bytes j) (whole_from bytes (suc j) places)

pub kept_whole : (readings : List Witnessed) → All HasWholeChunks (kept_chunks readings)
kept_whole [] = All-nil HasWholeChunks
kept_whole (r ∷ readings) = All-append HasWholeChunks (kept_of r) (kept_chunks readings) (whole_from r.bytes 0 r.published.places) (kept_whole readings)

-- chunk q of the chunks from chunk j on is stored under a number: it is one of the stored ones, as the number is of theirs
record IsStored (bytes : List ℕ) (places : List Place) (j q number : ℕ) : Type 0 where
  pub nth : ℕ
  pub below : nth < length (numbers_of places)
  pub is_number : get_or (numbers_of places) nth 0 ≡ number
  pub is_chunk : get_or (chunks_from bytes j places) nth [] ≡ chunk_at bytes (j + q)

-- a chunk whose place says so is stored
stored_at : (bytes : List ℕ) (places : List Place) (j q number : ℕ) → slice_get places q ≡ Some (Chunk number) → IsStored bytes places j q number
stored_at bytes [] j q number is = absurd (cc is)
stored_at bytes (Zero ∷ places) j zero number is = absurd (cc is)
stored_at bytes (Nothing ∷ places) j zero number is = absurd (cc is)
stored_at bytes (Chunk c ∷ places) j zero number is =
    record { nth = 0; below = omega arith; is_number = cc is; is_chunk = ap (chunk_at bytes) (omega arith) }
stored_at bytes (Zero ∷ places) j (suc q) number is =
    let s = stored_at bytes places (suc j) q number is in
    record { nth = s.nth; below = s.below; is_number = s.is_number; is_chunk = s.is_chunk ∙ ap (chunk_at bytes) (omega arith) }
stored_at bytes (Nothing ∷ places) j (suc q) number is =
    let s = stored_at bytes places (suc j) q number is in
    record { nth = s.nth; below = s.below; is_number = s.is_number; is_chunk = s.is_chunk ∙ ap (chunk_at bytes) (omega arith) }
stored_at bytes (Chunk c ∷ places) j (suc q) number is =
    let s = stored_at bytes places (suc j) q number is in
    record { nth = suc s.nth; below = omega (arith, s.below); is_number = s.is_number; is_chunk = s.is_chunk ∙ ap (chunk_at bytes) (omega arith) }

-- the stream has the bytes of a stored chunk, where as many chunks stand before it as its extent's first number says
pub stored_byte : (stream : ℕ → Option ℕ) (before after : List (List ℕ)) (bytes : List ℕ) (places : List Place) (q r number : ℕ)
    → numbers_of places ≡ range_with_len (length before) (length (numbers_of places))
    → ReadsAs stream (before ++ (stored_chunks bytes places ++ after)) → slice_get places q ≡ Some (Chunk number) → r < 32768 → 32768 * q + r < length bytes
    → stream (32768 * number + r) ≡ Some (slice_index bytes (32768 * q + r))
unfolding ReadsAs
stored_byte stream before after bytes places q r number numbered reads is low inside =
    let s = stored_at bytes places 0 q number is in
    let own : s.nth < length (stored_chunks bytes places) = omega (arith, s.below, length-chunks_from bytes 0 places) in
    let place : number ≡ length before + s.nth = sym s.is_number ∙ ap (λ v. get_or v s.nth 0) numbered ∙ get_or-range_with_len (length before) (length (numbers_of places)) s.nth 0 s.below in
    let there : length before + s.nth < length (before ++ (stored_chunks bytes places ++ after)) = omega (arith, own, length-append before (stored_chunks bytes places ++ after), length-append (stored_chunks bytes places) after) in
    ap (λ n. stream (32768 * n + r)) place
    ∙ reads (length before + s.nth) r there low
    ∙ ap (λ v. slice_get v r) (get_or-append-add before (stored_chunks bytes places ++ after) s.nth [] ∙ get_or-append (stored_chunks bytes places) after [] s.nth own ∙ s.is_chunk ∙ ap (chunk_at bytes) (omega arith))
    ∙ chunk_byte bytes q r low inside
