-- A chunk of a stream and the digest that is recorded of it.
use Rattle.std.specs.Prelude.{◌≡◌, ⊤, ℕ, List}
use Rattle.aff_model.specs.Held.{Held}
use Rattle.aff_hash.specs.declared.kind.Hash.{Hash}
use Rattle.aff_hash.specs.declared.kind.Hash.TheVariants.{Sha256}
use Rattle.aff_hash.specs.Digest.{digest_of}
use Rattle.aff_blockhash.specs.Recorded.{IsDigest}
use Rattle.aff_spec.specs.Streams.{chunk_of}
use Rattle.aff_volume.specs.Image.{Differs, IsRecorded, recorded_of}
use Rattle.aff_volume.specs.declared.chunk.Difference.{Difference}
use Rattle.aff_volume.specs.declared.error.VolumeReadError.{VolumeReadError}
use Rattle.aff_volume.specs.declared.error.VolumeReadError.TheVariants.{Failed, Damaged, Memory}

-- two digests of chunk c under a hash function, the recorded one and its own, that differ
pub record IsDifference (kind : Hash) (held : Held) (stream : List ℕ) (c : ℕ) (d : Difference) : Type 0 where
  pub recorded : IsDigest d.recorded kind (recorded_of kind held stream c)
  pub found : IsDigest d.found kind (digest_of kind (chunk_of held stream c))
  pub differ : ¬ (IsRecorded kind held stream c)

-- why chunk c is not read: a call failed, or its SHA-256 is another than the recorded one
abbrev pub IsChunkError : Held → List ℕ → ℕ → VolumeReadError → Type 0
IsChunkError held stream c Failed = ⊤
IsChunkError held stream c Memory = ⊤
IsChunkError held stream c (Damaged chunk recorded found) = (chunk ≡ c) × Differs Sha256 held stream c recorded found
