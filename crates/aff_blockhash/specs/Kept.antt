-- The segments of a bevvy's block hashes, by their hash functions.
use Rattle.std.specs.Prelude.{ℕ, List, ◌++◌, codes}
use Rattle.std.specs.List.{flat_map}
use Rattle.aff_spec.specs.Appends.{Append}
use Rattle.aff_spec.specs.Bevvies.{Sums}
use Rattle.aff_spec.specs.Names.{eight_digits, segment_in}
use Rattle.aff_blockhash.specs.declared.segment.Kept.{Kept}
use Rattle.aff_blockhash.specs.declared.segment.Kept.TheVariants.{Md5, Sha1, Sha256}

-- what stands behind the number of a bevvy in the segment's name
abbrev pub kept_suffix : Kept → List ℕ
kept_suffix Md5 = codes ".blockHash.md5"
kept_suffix Sha1 = codes ".blockHash.sha1"
kept_suffix Sha256 = codes ".blockHash.sha256"

-- the digest of a chunk
abbrev pub kept_digest : Kept → Sums → List ℕ
kept_digest Md5 = λ s. s.md5
kept_digest Sha1 = λ s. s.sha1
kept_digest Sha256 = λ s. s.sha256

-- the segment of a bevvy, with the digests of its chunks in order
abbrev pub kept_append : Kept → List ℕ → ℕ → List Sums → Append
kept_append kept stream b sums = (segment_in stream (eight_digits b ++ kept_suffix kept), flat_map (kept_digest kept) sums)
