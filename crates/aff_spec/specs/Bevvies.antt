-- Bevvies: how the chunks of a stream stand in segments (AFF4 Standard v1.0, image streams and block hashes).
use Rattle.std.specs.Prelude.{◌-◌, ℕ, ◌+◌, ◌*◌, ◌/◌, ◌%◌, ◌==◌, List, [], ◌∷◌, ◌++◌, length, take, drop, map, if◌then◌else◌}
use Rattle.std.specs.List.{range_with_len, flat_map}
use Rattle.md5.specs.Md5.{md5}
use Rattle.sha1.specs.Sha1.{sha1}
use Rattle.sha2.specs.Sha256.{sha256}
use Rattle.aff_model.specs.declared.limits.TheConstants.{BEVVY}
use Rattle.aff_fields.specs.Point.{point_bytes}
use Rattle.aff_spec.specs.Appends.{Append, appends_to}
use Rattle.aff_spec.specs.Names.{bevvy_name, index_name, md5_name, sha1_name, sha256_name}
use Rattle.aff_spec.specs.Streams.{full_points}

-- the three digests of a chunk: MD5 (RFC 1321), SHA-1 and SHA-256 (FIPS 180-4), as the toolchain defines them
pub record Sums : Type 0 where
  pub md5 : List ℕ
  pub sha1 : List ℕ
  pub sha256 : List ℕ

abbrev pub sums_of : List ℕ → Sums
sums_of chunk = record { md5 = md5 chunk; sha1 = sha1 chunk; sha256 = sha256 chunk }

-- how many bevvies so many chunks take
abbrev pub bevvy_count : ℕ → ℕ
bevvy_count n = (n + (BEVVY - 1)) / BEVVY

-- the chunks of bevvy b: 1,024 of them, or what is left
abbrev pub bevvy_of : List (List ℕ) → ℕ → List (List ℕ)
bevvy_of chunks b = take BEVVY (drop (BEVVY * b) chunks)

-- the index of a bevvy of n chunks
abbrev pub index_append : List ℕ → ℕ → ℕ → Append
index_append stream b n = (index_name stream b, flat_map point_bytes (full_points n))

-- the block hashes of a bevvy: the digests of its chunks in order, one segment for each hash function
abbrev pub hash_appends : List ℕ → ℕ → List Sums → List Append
hash_appends stream b sums =
    (md5_name stream b, flat_map (λ s. s.md5) sums) ∷ (sha1_name stream b, flat_map (λ s. s.sha1) sums) ∷ (sha256_name stream b, flat_map (λ s. s.sha256) sums) ∷ []

-- what is appended behind the chunks of a bevvy
abbrev pub closing_appends : List ℕ → ℕ → List (List ℕ) → List Append
closing_appends stream b chunks = index_append stream b (length chunks) ∷ hash_appends stream b (map sums_of chunks)

-- the appends of a bevvy: its chunks one by one, its index, its block hashes
abbrev pub bevvy_appends : List ℕ → List (List ℕ) → ℕ → List Append
bevvy_appends stream chunks b = appends_to (bevvy_name stream b) (bevvy_of chunks b) ++ closing_appends stream b (bevvy_of chunks b)

-- the appends of a stream, bevvy by bevvy
abbrev pub bevvies_appends : List ℕ → List (List ℕ) → List Append
bevvies_appends stream chunks = flat_map (bevvy_appends stream chunks) (range_with_len 0 (bevvy_count (length chunks)))

-- the appends of a stream that is still written: its full bevvies, and the chunks behind them
abbrev pub written : List ℕ → List (List ℕ) → List Append
written stream chunks =
    flat_map (bevvy_appends stream chunks) (range_with_len 0 (length chunks / BEVVY))
    ++ appends_to (bevvy_name stream (length chunks / BEVVY)) (drop (BEVVY * (length chunks / BEVVY)) chunks)

-- the appends that end it: what is appended behind a bevvy that is not full, where it has a chunk
abbrev pub ending : List ℕ → List (List ℕ) → List Append
ending stream chunks =
    if length chunks % BEVVY == 0 then [] else closing_appends stream (length chunks / BEVVY) (drop (BEVVY * (length chunks / BEVVY)) chunks)

-- the appends of one chunk more: the chunk, and behind the last one of a bevvy its index and its block hashes
abbrev pub chunk_appends : List ℕ → List (List ℕ) → List ℕ → List Append
chunk_appends stream chunks chunk =
    (bevvy_name stream (length chunks / BEVVY), chunk)
    ∷ (if (length chunks + 1) % BEVVY == 0 then closing_appends stream (length chunks / BEVVY) (drop (BEVVY * (length chunks / BEVVY)) chunks ++ chunk ∷ []) else [])

-- the appends of some chunks behind others
abbrev pub more_appends : List ℕ → List (List ℕ) → List (List ℕ) → List Append
more_appends stream before [] = []
more_appends stream before (chunk ∷ chunks) = chunk_appends stream before chunk ++ more_appends stream (before ++ chunk ∷ []) chunks

-- the digests of the chunks behind the last full bevvy
abbrev pub pending_sums : List (List ℕ) → List Sums
pending_sums chunks = map sums_of (drop (BEVVY * (length chunks / BEVVY)) chunks)

-- the names of the segments of a bevvy
abbrev pub bevvy_segments : List ℕ → ℕ → List (List ℕ)
bevvy_segments stream b = bevvy_name stream b ∷ index_name stream b ∷ md5_name stream b ∷ sha1_name stream b ∷ sha256_name stream b ∷ []
