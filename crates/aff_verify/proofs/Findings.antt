-- Digests of a volume that are compared one after another.
use Rattle.std.proofs.Common.{◌≡◌, ℕ, ◌+◌, ◌<◌, List, below_more, refl, subst}
use Rattle.aff_model.specs.Held.{Held}
use Rattle.aff_model.specs.Plan.{chunk_count}
use Rattle.aff_hash.specs.declared.kind.Digests.{Digests}
use Rattle.aff_hash.specs.declared.kind.Hash.{Hash}
use Rattle.aff_hash.specs.declared.kind.Hash.TheVariants.{Md5, Sha1, Sha256, Sha512}
use Rattle.aff_hash.specs.Digest.{digest_of}
use Rattle.aff_linear.specs.Feeds.{AreDigestsOf}
use Rattle.aff_info.specs.declared.info.Info.{Info}
use Rattle.aff_volume.specs.Agreement.{IsChunkSound, IsFirstDifference}
use Rattle.aff_volume.specs.declared.chunk.Difference.{Difference}
use Rattle.aff_verify.specs.Differences.{linear_in}
use Rattle.aff_verify.specs.Verdicts.{IsFirstFinding, image_of}
use Rattle.aff_verify.specs.declared.finding.Finding.TheVariants.{Block}

-- the digests that were taken are those of the image
pub taken_linear : (held : Held) (info : Info) (found : Digests) (hashed : List ℕ) → AreDigestsOf found hashed → hashed ≡ image_of held info → (k : Hash) → linear_in found k ≡ digest_of k (image_of held info)
taken_linear held info found hashed are is k = subst (λ bytes. linear_in found k ≡ digest_of k bytes) is (of_kind k)
  where
    of_kind : (k : Hash) → linear_in found k ≡ digest_of k hashed
    of_kind Md5 = are.md5
    of_kind Sha1 = are.sha1
    of_kind Sha256 = are.sha256
    of_kind Sha512 = are.sha512

-- a chunk more
pub sound_more : (held : Held) (stream : List ℕ) (c : ℕ) → ((k : ℕ) → k < c → IsChunkSound held stream k) → IsChunkSound held stream c → (k : ℕ) → k < c + 1 → IsChunkSound held stream k
sound_more held stream c before own = below_more (IsChunkSound held stream) c before own

-- a difference of a chunk behind sound ones
pub block_unsound : (held : Held) (info : Info) (c : ℕ) (d : Difference) → c < chunk_count info.stream_size → ((k : ℕ) → k < c → IsChunkSound held info.stream k) → IsFirstDifference held info.stream c d
    → IsFirstFinding held info (Block d.found.kind c d.recorded d.found)
block_unsound held info c d there chunks first = record { there = there; chunks = chunks; kind_is = refl; first = first }
