-- What a volume records of itself, against what the folder holds.
use Rattle.std.specs.Prelude.{◌≡◌, ◌≢◌, ℕ, ◌<◌, List}
use Rattle.aff_model.specs.Held.{Held}
use Rattle.aff_model.specs.Plan.{chunk_count}
use Rattle.aff_hash.specs.declared.kind.Digest.{Digest}
use Rattle.aff_hash.specs.declared.kind.Hash.{Hash}
use Rattle.aff_hash.specs.declared.kind.Hash.TheVariants.{Sha512}
use Rattle.aff_hash.specs.Digest.{digest_of}
use Rattle.aff_blockhash.specs.Recorded.{IsDigest}
use Rattle.aff_spec.specs.Bevvies.{bevvy_count}
use Rattle.aff_spec.specs.Volumes.{volume_bytes}
use Rattle.aff_finish.specs.BlockMap.{block_map_hash}
use Rattle.aff_info.specs.declared.info.Info.{Info}
use Rattle.aff_volume.specs.Agreement.{IsChunkSound, IsFirstDifference, rank}
use Rattle.aff_volume.specs.Image.{named_by}
use Rattle.aff_verify.specs.Differences.{linear_in}
use Rattle.aff_verify.specs.declared.finding.Finding.{Finding}
use Rattle.aff_verify.specs.declared.finding.Finding.TheVariants.{Block, Linear, BlockMap}
use Rattle.aff_verify.specs.declared.finding.Verdict.{Verdict}
use Rattle.aff_verify.specs.declared.finding.Verdict.TheVariants.{Sound, Unsound}

-- all bytes of the image, one after another
abbrev pub image_of : Held → Info → List ℕ
image_of held info = volume_bytes held (named_by info) info.image_size

-- the block map hash of what is held
abbrev pub map_hash_of : Held → Info → List ℕ
map_hash_of held info = block_map_hash held info.stream info.image (bevvy_count (chunk_count info.stream_size))

-- each chunk has its block hashes
abbrev pub AreBlocks : Held → Info → Type 0
AreBlocks held info = (c : ℕ) → c < chunk_count info.stream_size → IsChunkSound held info.stream c

-- a linear hash is that of the image
abbrev pub IsLinear : Held → Info → Hash → Type 0
IsLinear held info kind = linear_in info.linear kind ≡ digest_of kind (image_of held info)

-- everything that is recorded agrees with what is held
pub record IsAgreement (held : Held) (info : Info) : Type 0 where
  pub blocks : AreBlocks held info
  pub linear : (kind : Hash) → IsLinear held info kind
  pub block_map : info.block_map ≡ map_hash_of held info

-- a block hash is the first that differs: chunk by chunk from 0, of each by MD5, then SHA-1, then SHA-256
pub record IsBlockFinding (held : Held) (info : Info) (kind : Hash) (c : ℕ) (recorded found : Digest) : Type 0 where
  pub there : c < chunk_count info.stream_size
  pub chunks : (k : ℕ) → k < c → IsChunkSound held info.stream k
  pub kind_is : kind ≡ found.kind
  pub first : IsFirstDifference held info.stream c (record { recorded = recorded; found = found })

-- all block hashes agree, and a linear hash is the first that differs: by MD5, then SHA-1, SHA-256 and SHA-512
pub record IsLinearFinding (held : Held) (info : Info) (kind : Hash) (recorded found : Digest) : Type 0 where
  pub blocks : AreBlocks held info
  pub kinds : (k : Hash) → rank k < rank kind → IsLinear held info k
  pub differ : ¬ (IsLinear held info kind)
  pub recorded_is : IsDigest recorded kind (linear_in info.linear kind)
  pub found_is : IsDigest found kind (digest_of kind (image_of held info))

-- all block hashes and linear hashes agree, and the block map hash differs
pub record IsMapFinding (held : Held) (info : Info) (recorded found : Digest) : Type 0 where
  pub blocks : AreBlocks held info
  pub linear : (kind : Hash) → IsLinear held info kind
  pub differ : info.block_map ≢ map_hash_of held info
  pub recorded_is : IsDigest recorded Sha512 info.block_map
  pub found_is : IsDigest found Sha512 (map_hash_of held info)

-- a finding is the first that differs
abbrev pub IsFirstFinding : Held → Info → Finding → Type 0
IsFirstFinding held info (Block kind c recorded found) = IsBlockFinding held info kind c recorded found
IsFirstFinding held info (Linear kind recorded found) = IsLinearFinding held info kind recorded found
IsFirstFinding held info (BlockMap recorded found) = IsMapFinding held info recorded found

-- the verdict on what a folder holds
abbrev pub IsVerdict : Held → Info → Verdict → Type 0
IsVerdict held info Sound = IsAgreement held info
IsVerdict held info (Unsound finding) = IsFirstFinding held info finding
