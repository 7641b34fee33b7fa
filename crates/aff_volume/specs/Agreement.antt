-- What is recorded of the chunks of a stream, against the chunks.
use Rattle.std.specs.Prelude.{ℕ, ◌<◌, List}
use Rattle.aff_model.specs.Held.{Held}
use Rattle.aff_hash.specs.declared.kind.Hash.{Hash}
use Rattle.aff_hash.specs.declared.kind.Hash.TheVariants.{Md5, Sha1, Sha256, Sha512}
use Rattle.aff_volume.specs.Chunks.{IsDifference}
use Rattle.aff_volume.specs.Image.{IsRecorded}
use Rattle.aff_volume.specs.declared.chunk.Difference.{Difference}

-- the order in which digests are compared
abbrev pub rank : Hash → ℕ
rank Md5 = 0
rank Sha1 = 1
rank Sha256 = 2
rank Sha512 = 3

-- a chunk has its three block hashes
abbrev pub IsChunkSound : Held → List ℕ → ℕ → Type 0
IsChunkSound held stream c = (kind : Hash) → rank kind < 3 → IsRecorded kind held stream c

-- two digests are the first of a chunk that differ, in that order
pub record IsFirstDifference (held : Held) (stream : List ℕ) (c : ℕ) (d : Difference) : Type 0 where
  pub kept : rank d.found.kind < 3
  pub before : (kind : Hash) → rank kind < rank d.found.kind → IsRecorded kind held stream c
  pub difference : IsDifference d.found.kind held stream c d
