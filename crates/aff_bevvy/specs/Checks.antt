-- What single checks of a stream's segments and points say.
use Rattle.std.specs.Prelude.{◌≡◌, ⊤, ℕ, ◌+◌, ◌<◌, ◌≤◌, List, Some, slice_get}
use Rattle.aff_model.specs.Held.{Held}
use Rattle.aff_model.specs.Plan.{chunk_count}
use Rattle.aff_fields.specs.declared.point.Point.{Point}
use Rattle.aff_bevvy.specs.declared.error.StreamError.{StreamError}
use Rattle.aff_bevvy.specs.declared.error.StreamError.TheVariants.{NoSegment, Ragged, PointPastEnd, PointLength, Failed, Memory}
use Rattle.aff_bevvy.specs.Segments.{Lengths}
use Rattle.aff_bevvy.specs.Streams.{IsPoint, IsChunk, IsStoredLength, chunk_point, chunk_room}
use Rattle.aff_bevvy.specs.Faults.{LacksSegment, IsRagged}

-- a refusal for bevvy b
abbrev pub IsBevvyFault : Lengths → List ℕ → ℕ → ℕ → StreamError → Type 0
IsBevvyFault len stream n b (NoSegment k) = (k ≡ b) × LacksSegment len stream b
IsBevvyFault len stream n b (Ragged k) = (k ≡ b) × IsRagged len stream n b
IsBevvyFault len stream n b Memory = ⊤
IsBevvyFault len stream n b Failed = ⊥
IsBevvyFault len stream n b (PointPastEnd c) = ⊥
IsBevvyFault len stream n b (PointLength c l) = ⊥

-- a refusal that looks at no point
abbrev pub IsOfSegments : StreamError → Type 0
IsOfSegments (NoSegment b) = ⊤
IsOfSegments (Ragged b) = ⊤
IsOfSegments Memory = ⊤
IsOfSegments Failed = ⊥
IsOfSegments (PointPastEnd c) = ⊥
IsOfSegments (PointLength c l) = ⊥

-- a refusal for chunk c with this point, whose bevvy has len bytes
abbrev pub IsPointFault : ℕ → ℕ → ℕ → Point → StreamError → Type 0
IsPointFault size len c p (PointPastEnd k) = (k ≡ c) × (len < p.at + p.len)
IsPointFault size len c p (PointLength k l) = (k ≡ c) × (l ≡ p.len) × (p.at + p.len ≤ len) × (¬ (IsStoredLength size c p.len))
IsPointFault size len c p (NoSegment b) = ⊥
IsPointFault size len c p (Ragged b) = ⊥
IsPointFault size len c p Failed = ⊥
IsPointFault size len c p Memory = ⊥

-- a refusal for the first of these points, from that of chunk c on, that is not as it has to be
pub record IsFirstPointFault (points : List Point) (size len c : ℕ) (e : StreamError) : Type 0 where
  pub nth : ℕ
  pub point : Point
  pub there : slice_get points nth ≡ Some point
  pub fault : IsPointFault size len (c + nth) point e
  pub before : (k : ℕ) (p : Point) → k < nth → slice_get points k ≡ Some p → IsPoint size len (c + k) p

-- a refusal for the first chunk, from chunk c on, that does not stand as its point says
pub record IsFirstChunkFault (held : Held) (stream : List ℕ) (size c : ℕ) (e : StreamError) : Type 0 where
  pub chunk : ℕ
  pub high : chunk < chunk_count size
  pub fault : IsPointFault size (chunk_room held stream chunk) chunk (chunk_point held stream chunk) e
  pub before : (k : ℕ) → c ≤ k → k < chunk → IsChunk held stream size k

-- a refusal for chunks from chunk c on, or that of a call
abbrev pub IsChunkFaultFrom : Held → List ℕ → ℕ → ℕ → StreamError → Type 0
IsChunkFaultFrom held stream size c (PointPastEnd k) = IsFirstChunkFault held stream size c (PointPastEnd k)
IsChunkFaultFrom held stream size c (PointLength k l) = IsFirstChunkFault held stream size c (PointLength k l)
IsChunkFaultFrom held stream size c (NoSegment b) = ⊥
IsChunkFaultFrom held stream size c (Ragged b) = ⊥
IsChunkFaultFrom held stream size c Failed = ⊤
IsChunkFaultFrom held stream size c Memory = ⊤

-- a refusal for a point
abbrev pub IsOfPoints : StreamError → Type 0
IsOfPoints (PointPastEnd c) = ⊤
IsOfPoints (PointLength c l) = ⊤
IsOfPoints (NoSegment b) = ⊥
IsOfPoints (Ragged b) = ⊥
IsOfPoints Failed = ⊥
IsOfPoints Memory = ⊥

-- a refusal that looks at no list of segments
abbrev pub IsOfChunks : StreamError → Type 0
IsOfChunks (NoSegment b) = ⊥
IsOfChunks (Ragged b) = ⊥
IsOfChunks (PointPastEnd c) = ⊤
IsOfChunks (PointLength c l) = ⊤
IsOfChunks Failed = ⊤
IsOfChunks Memory = ⊤
