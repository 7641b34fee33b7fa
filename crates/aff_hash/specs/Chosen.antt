-- The digests of an extent's chosen chunks.
use Rattle.std.specs.Prelude.{ℕ, List, map}
use Rattle.aff_hash.specs.declared.kind.ChunkSums.{ChunkSums}
use Rattle.aff_hash.specs.declared.kind.Hash.TheVariants.{Md5, Sha1, Sha256}
use Rattle.aff_hash.specs.Digest.{digest_of}
use Rattle.aff_spec.specs.Chunks.{chunk_at}

-- the three digests of a chunk
abbrev pub chunk_sums_of : List ℕ → ChunkSums
chunk_sums_of chunk = record { md5 = digest_of Md5 chunk; sha1 = digest_of Sha1 chunk; sha256 = digest_of Sha256 chunk }

-- the digests of the chosen chunks of some bytes, in their order, each padded where it is the last and short
abbrev pub chosen_sums : List ℕ → List ℕ → List ChunkSums
chosen_sums bytes chosen = map (λ j. chunk_sums_of (chunk_at bytes j)) chosen
