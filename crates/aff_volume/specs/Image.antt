-- The image of a volume, and the chunks that its bytes come from.
use Rattle.std.specs.Prelude.{◌≡◌, ◌≢◌, ℕ, ◌+◌, ◌/◌, ◌%◌, ◌<◌, List, ◌++◌, codes, Option, None, Some, IfSome, if◌then◌else◌, slice_get}
use Rattle.std.specs.Option.{option_and_then}
use Rattle.std.specs.Str.{bytes_eq}
use Rattle.aff_model.specs.declared.limits.TheConstants.{BEVVY, CHUNK}
use Rattle.aff_model.specs.Held.{Held, bytes_of}
use Rattle.aff_fields.specs.Entry.{entries_of}
use Rattle.aff_hash.specs.declared.kind.Hash.{Hash}
use Rattle.aff_hash.specs.declared.kind.Hash.TheVariants.{Md5, Sha1, Sha256, Sha512}
use Rattle.aff_hash.specs.Digest.{digest_of}
use Rattle.aff_blockhash.specs.Recorded.{digest_at}
use Rattle.aff_info.specs.declared.info.Info.{Info}
use Rattle.aff_map.specs.declared.target.Target.{Target}
use Rattle.aff_map.specs.declared.target.Target.TheVariants.{Stored, Zero, Unknown, Unreadable}
use Rattle.aff_spec.specs.Names.{eight_digits, idx_name, map_name, segment_in, unknown_iri, unreadable_iri, zero_iri}
use Rattle.aff_spec.specs.Runs.{Spot, lookup}
use Rattle.aff_spec.specs.Streams.{chunk_of}
use Rattle.aff_spec.specs.Lines.{lines_of}
use Rattle.aff_spec.specs.Volumes.{Volume}

-- the name of a target: the URN of the stream, or the IRI of a symbolic one
abbrev pub name_of : List ℕ → Target → List ℕ
name_of stream Stored = stream
name_of stream Zero = zero_iri
name_of stream Unknown = unknown_iri
name_of stream Unreadable = unreadable_iri

-- the stream, the image and the gap that metadata name
abbrev pub named_by : Info → Volume
named_by info = record { stream = info.stream; image = info.image; gap = name_of info.stream info.gap }

-- the offset in the stream that an offset of a target is, where the target is the stream
abbrev pub stream_offset : Volume → List ℕ → ℕ → Option ℕ
stream_offset v target offset = if bytes_eq target v.stream then Some offset else None

-- the same of a spot of the image, and of an offset of the image
abbrev pub spot_offset : Held → Volume → ℕ → Option Spot → Option ℕ
spot_offset held v i None = stream_offset v v.gap i
spot_offset held v i (Some s) = option_and_then (λ target. stream_offset v target s.1) (slice_get (lines_of (bytes_of held (idx_name v.image))) s.0)

abbrev pub stored_offset : Held → Volume → ℕ → Option ℕ
stored_offset held v i = spot_offset held v i (lookup (entries_of (bytes_of held (map_name v.image))) i)

-- what stands behind the number of a bevvy in the name of its block hashes under a hash function
abbrev pub hash_suffix : Hash → List ℕ
hash_suffix Md5 = codes ".blockHash.md5"
hash_suffix Sha1 = codes ".blockHash.sha1"
hash_suffix Sha256 = codes ".blockHash.sha256"
hash_suffix Sha512 = codes ".blockHash.sha512"

-- the block hash segment of a bevvy under a hash function
abbrev pub block_hash_name : Hash → List ℕ → ℕ → List ℕ
block_hash_name kind stream b = segment_in stream (eight_digits b ++ hash_suffix kind)

-- the digest that is recorded of chunk c
abbrev pub recorded_of : Hash → Held → List ℕ → ℕ → List ℕ
recorded_of kind held stream c = digest_at kind (bytes_of held (block_hash_name kind stream (c / BEVVY))) (c % BEVVY)

-- it is the digest of the chunk as it is stored
abbrev pub IsRecorded : Hash → Held → List ℕ → ℕ → Type 0
IsRecorded kind held stream c = recorded_of kind held stream c ≡ digest_of kind (chunk_of held stream c)

-- two digests of a chunk, the recorded one and its own, that differ
pub record Differs (kind : Hash) (held : Held) (stream : List ℕ) (c : ℕ) (recorded found : List ℕ) : Type 0 where
  pub recorded_is : recorded ≡ recorded_of kind held stream c
  pub found_is : found ≡ digest_of kind (chunk_of held stream c)
  pub differ : recorded ≢ found

-- what an offset of the image reads from the stream, if anything, is of a chunk with the recorded SHA-256
abbrev pub IsSoundAt : Held → Volume → ℕ → Type 0
IsSoundAt held v i = IfSome (stored_offset held v i) (λ j. IsRecorded Sha256 held v.stream (j / CHUNK))

-- of n offsets from one on, the first that reads from a chunk with another SHA-256 than the recorded one, that chunk, and
-- both digests
pub record IsFirstDamage (held : Held) (v : Volume) (at n chunk : ℕ) (recorded found : List ℕ) : Type 0 where
  pub number : ℕ
  pub there : number < n
  pub before : (k : ℕ) → k < number → IsSoundAt held v (at + k)
  pub offset : ℕ
  pub stored : stored_offset held v (at + number) ≡ Some offset
  pub chunk_is : chunk ≡ offset / CHUNK
  pub differs : Differs Sha256 held v.stream chunk recorded found
