-- What is fed of an image to its linear hash.
use Rattle.std.specs.Prelude.{◌≡◌, ℕ, ◌+◌, ◌-◌, ◌*◌, ◌≤◌, ◌<◌, ◌==◌, Bool, List, length, map, unwrap_or, Option, None, Some, find, IsTrue, slice_index_or, if◌then◌else◌}
use Rattle.std.specs.List.{range_with_len}
use Rattle.md5.specs.Md5.{md5}
use Rattle.sha1.specs.Sha1.{sha1}
use Rattle.sha2.specs.Sha256.{sha256}
use Rattle.sha2.specs.Sha512.{sha512}
use Rattle.aff_model.specs.declared.limits.TheConstants.{CHUNK}
use Rattle.aff_model.specs.Held.{Held}
use Rattle.aff_fields.specs.declared.entry.Entry.{Entry}
use Rattle.aff_hash.specs.declared.kind.Digests.{Digests}
use Rattle.aff_spec.specs.Bevvies.{bevvy_count}
use Rattle.aff_spec.specs.Runs.{covers}
use Rattle.aff_spec.specs.Streams.{stream_byte}
use Rattle.aff_spec.specs.Symbols.{unknown_byte, unreadable_byte}
use Rattle.aff_spec.specs.Walks.{AreImageRuns, IsStreamIn}

-- the four digests of some bytes: MD5 (RFC 1321), SHA-1, SHA-256 and SHA-512 (FIPS 180-4), as the toolchain defines them
pub record AreDigestsOf (digests : Digests) (bytes : List ℕ) : Type 0 where
  pub md5 : digests.md5 ≡ md5 bytes
  pub sha1 : digests.sha1 ≡ sha1 bytes
  pub sha256 : digests.sha256 ≡ sha256 bytes
  pub sha512 : digests.sha512 ≡ sha512 bytes

-- a range of places lies in a stream of some chunks, whose bevvies have numbers of eight digits, and a folder that tells has
-- the stream
pub record IsInStream (tells : Bool) (held : Held) (stream : List ℕ) (at len : ℕ) : Type 0 where
  pub chunks : ℕ
  pub few : bevvy_count chunks ≤ 100000000
  pub inside : at + len ≤ CHUNK * chunks
  pub there : IsTrue tells → IsStreamIn held stream chunks

-- the byte at a place of the image that an entry covers
abbrev pub run_byte : Held → List ℕ → Entry → ℕ → ℕ
run_byte held stream e i =
    if e.target == 0 then unwrap_or (stream_byte held stream (e.target_at + (i - e.at))) 0
    else (if e.target == 1 then 0 else unreadable_byte i)

-- the bytes of an entry
abbrev pub run_bytes : Held → List ℕ → Entry → List ℕ
run_bytes held stream e = map (run_byte held stream e) (range_with_len e.at e.len)

-- the entries of an image of a size are runs over a stream of some chunks, as above
pub record IsImageIn (tells : Bool) (held : Held) (stream : List ℕ) (size : ℕ) (entries : List Entry) : Type 0 where
  pub chunks : ℕ
  pub few : bevvy_count chunks ≤ 100000000
  pub runs : AreImageRuns size chunks entries
  pub there : IsTrue tells → IsStreamIn held stream chunks

-- the byte at place i of the image: of the entry that covers it, else an unknown one
abbrev pub byte_by : Held → List ℕ → ℕ → Option Entry → ℕ
byte_by held stream i None = unknown_byte i
byte_by held stream i (Some e) = run_byte held stream e i

abbrev pub image_byte : Held → List ℕ → List Entry → ℕ → ℕ
image_byte held stream entries i = byte_by held stream i (find (covers i) entries)

-- n bytes of the image from a place on
abbrev pub image_range : Held → List ℕ → List Entry → ℕ → ℕ → List ℕ
image_range held stream entries at n = map (image_byte held stream entries) (range_with_len at n)

-- a place of the image lies behind the first k entries and before the others
pub record IsBetween (entries : List Entry) (k at : ℕ) : Type 0 where
  pub ended : (j : ℕ) (d : Entry) → j < k → j < length entries → (slice_index_or entries j d).at + (slice_index_or entries j d).len ≤ at
  pub ahead : (j : ℕ) (d : Entry) → k ≤ j → j < length entries → at ≤ (slice_index_or entries j d).at
