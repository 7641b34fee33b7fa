-- The block hash segments of a stream by their lengths.
use Rattle.std.specs.Prelude.{◌≡◌, ℕ, ◌*◌, ◌<◌, List, Some}
use Rattle.aff_hash.specs.declared.kind.Hash.TheVariants.{Md5, Sha1, Sha256}
use Rattle.aff_hash.specs.Digest.{digest_size}
use Rattle.aff_spec.specs.Bevvies.{bevvy_count}
use Rattle.aff_spec.specs.BlockHashes.{chunks_in}
use Rattle.aff_spec.specs.Names.{md5_name, sha1_name, sha256_name}
use Rattle.aff_bevvy.specs.Segments.{Lengths}

-- bevvy b of a stream of n chunks has its three block hash segments, each as long as a digest for each chunk of the bevvy
pub record IsHashed (len : Lengths) (stream : List ℕ) (n b : ℕ) : Type 0 where
  pub by_md5 : len (md5_name stream b) ≡ Some (digest_size Md5 * chunks_in n b)
  pub by_sha1 : len (sha1_name stream b) ≡ Some (digest_size Sha1 * chunks_in n b)
  pub by_sha256 : len (sha256_name stream b) ≡ Some (digest_size Sha256 * chunks_in n b)

-- all bevvies have
abbrev pub AreHashed : Lengths → List ℕ → ℕ → Type 0
AreHashed len stream n = (b : ℕ) → b < bevvy_count n → IsHashed len stream n b

-- the first bevvy that has not
pub record IsFirstUnhashed (len : Lengths) (stream : List ℕ) (n b : ℕ) : Type 0 where
  pub there : b < bevvy_count n
  pub before : (k : ℕ) → k < b → IsHashed len stream n k
  pub lacks : ¬ (IsHashed len stream n b)
