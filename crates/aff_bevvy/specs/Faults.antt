-- What keeps the segments of a folder from being a stream.
use Rattle.std.specs.Prelude.{◌≡◌, ◌≢◌, ◌⊎◌, ⊤, ℕ, ◌+◌, ◌*◌, ◌<◌, ◌≤◌, List, None, IsSome, IsSomeAnd}
use Rattle.aff_model.specs.Held.{Held}
use Rattle.aff_model.specs.Plan.{chunk_count}
use Rattle.aff_spec.specs.Bevvies.{bevvy_count}
use Rattle.aff_spec.specs.BlockHashes.{chunks_in}
use Rattle.aff_spec.specs.Names.{bevvy_name, index_name}
use Rattle.aff_bevvy.specs.declared.error.StreamError.{StreamError}
use Rattle.aff_bevvy.specs.declared.error.StreamError.TheVariants.{NoSegment, Ragged, PointPastEnd, PointLength, Failed, Memory}
use Rattle.aff_bevvy.specs.Segments.{Lengths, IsBevvy, AreBevvies, held_length}
use Rattle.aff_bevvy.specs.Streams.{IsChunk, IsStoredLength, chunk_point, chunk_room}

-- bevvy b or its index is not there
abbrev pub LacksSegment : Lengths → List ℕ → ℕ → Type 0
LacksSegment len stream b = (len (bevvy_name stream b) ≡ None) ⊎ (len (index_name stream b) ≡ None)

-- both are there, and the index has another length than its points have
pub record IsRagged (len : Lengths) (stream : List ℕ) (n b : ℕ) : Type 0 where
  pub bevvy : IsSome (len (bevvy_name stream b))
  pub index : IsSomeAnd (len (index_name stream b)) (λ bytes. bytes ≢ 12 * chunks_in n b)

-- what a refusal says of the segments: the first bevvy that is not as it has to be, or that all are
abbrev pub IsListFault : Lengths → List ℕ → ℕ → StreamError → Type 0
IsListFault len stream n (NoSegment b) = (b < bevvy_count n) × LacksSegment len stream b × ((k : ℕ) → k < b → IsBevvy len stream n k)
IsListFault len stream n (Ragged b) = (b < bevvy_count n) × IsRagged len stream n b × ((k : ℕ) → k < b → IsBevvy len stream n k)
IsListFault len stream n (PointPastEnd c) = AreBevvies len stream n
IsListFault len stream n (PointLength c l) = AreBevvies len stream n
IsListFault len stream n Failed = AreBevvies len stream n
IsListFault len stream n Memory = ⊤

-- what a refusal says of the chunks: the first that does not stand as its point says
abbrev pub IsChunkFault : Held → List ℕ → ℕ → StreamError → Type 0
IsChunkFault held stream size (PointPastEnd c) =
    (c < chunk_count size) × (chunk_room held stream c < (chunk_point held stream c).at + (chunk_point held stream c).len)
    × ((k : ℕ) → k < c → IsChunk held stream size k)
IsChunkFault held stream size (PointLength c l) =
    (c < chunk_count size) × ((chunk_point held stream c).at + (chunk_point held stream c).len ≤ chunk_room held stream c)
    × (l ≡ (chunk_point held stream c).len) × (¬ (IsStoredLength size c l))
    × ((k : ℕ) → k < c → IsChunk held stream size k)
IsChunkFault held stream size (NoSegment b) = ⊤
IsChunkFault held stream size (Ragged b) = ⊤
IsChunkFault held stream size Failed = ⊤
IsChunkFault held stream size Memory = ⊤

-- what a refusal says of the folder: of all bevvies and then of all chunks, the first that is not as a stream has it
abbrev pub IsStreamRefused : Held → List ℕ → ℕ → StreamError → Type 0
IsStreamRefused held stream size e = IsListFault (held_length held) stream (chunk_count size) e × IsChunkFault held stream size e
