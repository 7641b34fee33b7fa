-- Chunks: how the bytes of an extent are cut for the stream, and which of them are stored.
use Rattle.std.specs.Prelude.{◌≡◌, ℕ, suc, ◌+◌, ◌-◌, ◌*◌, ◌<◌, ◌≤◌, List, [], ◌∷◌, ◌++◌, length, take, drop, map, replicate, Option, None, Some, slice_get, slice_index, if◌then◌else◌}
use Rattle.std.specs.List.{range_with_len, flat_map}
use Rattle.aff_model.specs.declared.limits.TheConstants.{CHUNK}
use Rattle.aff_model.specs.declared.extent.Extent.{Extent}
use Rattle.aff_model.specs.declared.publication.Place.{Place}
use Rattle.aff_model.specs.declared.publication.Place.TheVariants.{Zero, Chunk, Nothing}
use Rattle.aff_model.specs.Cells.{is_bad_at}
use Rattle.aff_model.specs.Content.{Content}
use Rattle.aff_model.specs.History.{Published}

-- zeros behind some bytes, up to the length of a chunk
unfoldable pub padded : List ℕ → List ℕ
padded bytes = bytes ++ replicate (CHUNK - length bytes) 0

-- chunk j of some bytes, padded where it is the last and short
abbrev pub chunk_at : List ℕ → ℕ → List ℕ
chunk_at bytes j = padded (take CHUNK (drop (CHUNK * j) bytes))

-- all bytes of chunk j are 0
abbrev pub IsZeroPart : List ℕ → ℕ → Type 0
IsZeroPart bytes j = (k : ℕ) → CHUNK * j ≤ k → k < CHUNK * j + CHUNK → k < length bytes → slice_index bytes k ≡ 0

-- the chunks of some bytes that are stored, by the places of all chunks from chunk j on
abbrev pub chunks_from : List ℕ → ℕ → List Place → List (List ℕ)
chunks_from bytes j [] = []
chunks_from bytes j (Zero ∷ places) = chunks_from bytes (suc j) places
chunks_from bytes j (Nothing ∷ places) = chunks_from bytes (suc j) places
chunks_from bytes j (Chunk c ∷ places) = chunk_at bytes j ∷ chunks_from bytes (suc j) places

-- the chunks of some bytes that are stored, by the place of each chunk
abbrev pub stored_chunks : List ℕ → List Place → List (List ℕ)
stored_chunks bytes places = chunks_from bytes 0 places

-- the bytes of a published extent, with 0 in each sector that could not be read
abbrev pub published_bytes : Content → Extent → Published → List ℕ
published_bytes c e p = map (λ i. if is_bad_at e p i then 0 else c.byte i) (range_with_len e.at e.len)

-- the stored chunks of a publication, where its extent is one of the plan's
abbrev pub chunks_by : Content → Option Extent → Published → List (List ℕ)
chunks_by c None p = []
chunks_by c (Some e) p = stored_chunks (published_bytes c e p) p.places

-- the stored chunks of a history, in the order of publication and then of place
abbrev pub stream_chunks : Content → List Extent → List Published → List (List ℕ)
stream_chunks c extents history = flat_map (λ p. chunks_by c (slice_get extents p.extent) p) history
