-- Block hashes by their hash functions, as the block map hash reads them back.
use Rattle.std.specs.Prelude.{◌≡◌, ℕ, ◌*◌, ◌<◌, List, length, codes}
use Rattle.sha2.specs.Sha512.{sha512}
use Rattle.aff_model.specs.Held.{Held, bytes_of}
use Rattle.aff_spec.specs.Appends.{Append}
use Rattle.aff_spec.specs.Bevvies.{bevvy_count}
use Rattle.aff_spec.specs.BlockHashes.{chunks_in}
use Rattle.aff_spec.specs.Names.{stream_urn, image_urn, md5_name, sha1_name, sha256_name, map_name, idx_name}
use Rattle.aff_finish.specs.BlockMap.{block_hashes}
use Rattle.aff_finish.specs.declared.block_map.Kept.{Kept}
use Rattle.aff_finish.specs.declared.block_map.Kept.TheVariants.{Md5, Sha1, Sha256}

-- what stands behind a bevvy's number in the name of its segment
abbrev pub kept_suffix : Kept → List ℕ
kept_suffix Md5 = codes ".blockHash.md5"
kept_suffix Sha1 = codes ".blockHash.sha1"
kept_suffix Sha256 = codes ".blockHash.sha256"

abbrev pub kept_name : Kept → List ℕ → ℕ → List ℕ
kept_name Md5 stream b = md5_name stream b
kept_name Sha1 stream b = sha1_name stream b
kept_name Sha256 stream b = sha256_name stream b

-- how many bytes a digest has
abbrev pub kept_size : Kept → ℕ
kept_size Md5 = 16
kept_size Sha1 = 20
kept_size Sha256 = 32

-- the digest of all block hashes by one hash function, of n chunks of a stream
abbrev pub kept_digest : Held → List ℕ → ℕ → Kept → List ℕ
kept_digest held stream n kept = sha512 (block_hashes (kept_name kept) held stream (bevvy_count n))

-- the segment of each bevvy is as long as the digests of its chunks are
abbrev pub HasKept : Held → List ℕ → ℕ → Kept → Type 0
HasKept held stream n kept = (b : ℕ) → b < bevvy_count n → length (bytes_of held (kept_name kept stream b)) ≡ kept_size kept * chunks_in n b

abbrev pub HasAllKept : Held → List ℕ → ℕ → Type 0
HasAllKept held stream n = (kept : Kept) → HasKept held stream n kept

-- the folder has what the block map hash of a volume of n chunks is taken of: the block hashes, the map, and the list of its
-- targets
pub record HasSegments (held : Held) (uuid : List ℕ) (n : ℕ) (map idx : Append) : Type 0 where
  pub kept : HasAllKept held (stream_urn uuid) n
  pub map_is : map.0 ≡ map_name (image_urn uuid)
  pub map_there : bytes_of held map.0 ≡ map.1
  pub idx_is : idx.0 ≡ idx_name (image_urn uuid)
  pub idx_there : bytes_of held idx.0 ≡ idx.1
