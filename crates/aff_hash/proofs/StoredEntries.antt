-- For whoever takes the digests of an extent's stored chunks: which numbers they have, and which entry is whose.
use Rattle.std.proofs.Common.{◌≡◌, ℕ, suc, ◌<◌, List, [], ◌∷◌, length, map, slice_index, slice_index_or, refl, ap, ◌∙◌}
use Rattle.std.proofs.lemmas.List.{get_or-map, length-map}
use Rattle.aff_model.specs.declared.publication.Place.{Place}
use Rattle.aff_model.specs.declared.publication.Place.TheVariants.{Zero, Chunk, Nothing}
use Rattle.aff_spec.specs.Chunks.{chunk_at, chunks_from}
use Rattle.aff_hash.specs.declared.kind.ChunkSums.{ChunkSums}
use Rattle.aff_hash.specs.Chosen.{chosen_sums, chunk_sums_of}

-- the numbers of the stored chunks, by the places of all chunks from chunk j on
abbrev pub stored_from : ℕ → List Place → List ℕ
stored_from j [] = []
stored_from j (Zero ∷ places) = stored_from (suc j) places
stored_from j (Nothing ∷ places) = stored_from (suc j) places
stored_from j (Chunk c ∷ places) = j ∷ stored_from (suc j) places

-- the chunks of these numbers are the stored ones
pub map-stored_from : (bytes : List ℕ) (j : ℕ) (places : List Place) → map (chunk_at bytes) (stored_from j places) ≡ chunks_from bytes j places
map-stored_from bytes j [] = refl
map-stored_from bytes j (Zero ∷ places) = map-stored_from bytes (suc j) places
map-stored_from bytes j (Nothing ∷ places) = map-stored_from bytes (suc j) places
map-stored_from bytes j (Chunk c ∷ places) = ap (λ (chunks : List (List ℕ)). chunk_at bytes j ∷ chunks) (map-stored_from bytes (suc j) places)

-- one entry a chosen chunk
pub length-chosen_sums : (bytes chosen : List ℕ) → length (chosen_sums bytes chosen) ≡ length chosen
length-chosen_sums bytes chosen = length-map chosen (λ (j : ℕ). chunk_sums_of (chunk_at bytes j))

-- entry i is that of the chunk with the i-th number
pub chosen_sums_at : (bytes chosen : List ℕ) (sums : List ChunkSums) (i : ℕ) (other : ChunkSums) → sums ≡ chosen_sums bytes chosen → i < length chosen
    → slice_index_or sums i other ≡ chunk_sums_of (chunk_at bytes (slice_index chosen i))
chosen_sums_at bytes chosen sums i other is low =
    ap (λ (s : List ChunkSums). slice_index_or s i other) is ∙ get_or-map (λ (j : ℕ). chunk_sums_of (chunk_at bytes j)) chosen i 0 other low
