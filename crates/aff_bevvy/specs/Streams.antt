-- Streams that can be read from a folder.
use Rattle.std.specs.Prelude.{◌≡◌, ℕ, ◌+◌, ◌-◌, ◌*◌, ◌/◌, ◌%◌, ◌<◌, ◌≤◌, ◌⊎◌, min, List, length}
use Rattle.aff_model.specs.declared.limits.TheConstants.{CHUNK, BEVVY}
use Rattle.aff_model.specs.Held.{Held, bytes_of}
use Rattle.aff_model.specs.Plan.{chunk_count}
use Rattle.aff_fields.specs.declared.point.Point.{Point}
use Rattle.aff_fields.specs.Point.{point_at}
use Rattle.aff_spec.specs.Names.{bevvy_name, index_name}
use Rattle.aff_bevvy.specs.Segments.{AreBevvies, held_length}

-- a stream by its URN and its number of bytes
pub record Sized : Type 0 where
  pub stream : List ℕ
  pub size : ℕ

-- how many bytes of chunk c a stream of so many has: 32,768, or what is left
abbrev pub chunk_len : ℕ → ℕ → ℕ
chunk_len size c = min CHUNK (size - CHUNK * c)

-- a stored chunk may have this length: 32,768, since chunks are stored padded, or without padding the rest of the stream
abbrev pub IsStoredLength : ℕ → ℕ → ℕ → Type 0
IsStoredLength size c len = (len ≡ CHUNK) ⊎ (len ≡ chunk_len size c)

-- a point of chunk c names a part of its bevvy, which has len bytes, and a part as long as the stored chunk
pub record IsPoint (size len c : ℕ) (p : Point) : Type 0 where
  pub inside : p.at + p.len ≤ len
  pub whole : IsStoredLength size c p.len

-- the point of chunk c, and the length of its bevvy
abbrev pub chunk_point : Held → List ℕ → ℕ → Point
chunk_point held stream c = point_at (bytes_of held (index_name stream (c / BEVVY))) (c % BEVVY)

abbrev pub chunk_room : Held → List ℕ → ℕ → ℕ
chunk_room held stream c = length (bytes_of held (bevvy_name stream (c / BEVVY)))

-- chunk c stands in its bevvy where its point says
abbrev pub IsChunk : Held → List ℕ → ℕ → ℕ → Type 0
IsChunk held stream size c = IsPoint size (chunk_room held stream c) c (chunk_point held stream c)

-- the folder has a stream of so many bytes: its bevvies with their indexes, and its chunks in them
pub record IsStream (held : Held) (stream : List ℕ) (size : ℕ) : Type 0 where
  pub bevvies : AreBevvies (held_length held) stream (chunk_count size)
  pub chunks : (c : ℕ) → c < chunk_count size → IsChunk held stream size c
