-- Block hashes: the digests of a stream's chunks as they stand (AFF4 Standard v1.0, block hashes).
use Rattle.std.specs.Prelude.{◌≡◌, ℕ, ◌-◌, ◌*◌, ◌<◌, min, List}
use Rattle.std.specs.List.{range_with_len, flat_map}
use Rattle.md5.specs.Md5.{md5}
use Rattle.sha1.specs.Sha1.{sha1}
use Rattle.sha2.specs.Sha256.{sha256}
use Rattle.aff_model.specs.declared.limits.TheConstants.{BEVVY}
use Rattle.aff_model.specs.Held.{Held, bytes_of}
use Rattle.aff_spec.specs.Bevvies.{bevvy_count}
use Rattle.aff_spec.specs.Names.{md5_name, sha1_name, sha256_name}
use Rattle.aff_spec.specs.Streams.{chunk_of}

-- the digests of chunks of a stream one after another, from chunk c on, as many as n
abbrev pub digests_from : (List ℕ → List ℕ) → Held → List ℕ → ℕ → ℕ → List ℕ
digests_from hash held stream c n = flat_map (λ k. hash (chunk_of held stream k)) (range_with_len c n)

-- how many chunks bevvy b has of n
abbrev pub chunks_in : ℕ → ℕ → ℕ
chunks_in n b = min BEVVY (n - BEVVY * b)

-- each bevvy of a stream of n chunks has its block hashes: for each chunk, as it is stored, its digest
pub record HasBlockHashes (held : Held) (stream : List ℕ) (n : ℕ) : Type 0 where
  pub by_md5 : (b : ℕ) → b < bevvy_count n → bytes_of held (md5_name stream b) ≡ digests_from md5 held stream (BEVVY * b) (chunks_in n b)
  pub by_sha1 : (b : ℕ) → b < bevvy_count n → bytes_of held (sha1_name stream b) ≡ digests_from sha1 held stream (BEVVY * b) (chunks_in n b)
  pub by_sha256 : (b : ℕ) → b < bevvy_count n → bytes_of held (sha256_name stream b) ≡ digests_from sha256 held stream (BEVVY * b) (chunks_in n b)
