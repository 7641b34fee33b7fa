-- Walks: what reading all bytes of an image in their order stands on, the entries of its map and the bevvies of its stream.
use Rattle.std.specs.Prelude.{◌≡◌, ℕ, ◌+◌, ◌*◌, ◌<◌, ◌≤◌, Bool, List, length, map, unwrap_or, All, IsSomeAnd, IsTrue, slice_index_or}
use Rattle.std.specs.List.{flat_map, range_with_len}
use Rattle.std.specs.FinMap.{get}
use Rattle.aff_model.specs.declared.limits.TheConstants.{CHUNK}
use Rattle.aff_model.specs.Held.{Held, bytes_of}
use Rattle.aff_fields.specs.declared.entry.Entry.{Entry}
use Rattle.aff_fields.specs.Entry.{entries_of}
use Rattle.aff_fields.specs.Point.{point_bytes}
use Rattle.aff_spec.specs.Bevvies.{bevvy_count}
use Rattle.aff_spec.specs.BlockHashes.{chunks_in}
use Rattle.aff_spec.specs.Names.{bevvy_name, index_name, map_name, idx_name, stream_urn, image_urn}
use Rattle.aff_spec.specs.Streams.{stream_byte, full_points}
use Rattle.aff_spec.specs.Volumes.{targets_text}

-- a run of an image of a size whose stream has n chunks: some bytes inside the image, and these are stored ones inside the
-- stream (target 0), or zeros or unreadable ones at their own places (targets 1 and 2)
pub record IsImageRun (size n : ℕ) (e : Entry) : Type 0 where
  pub some : 0 < e.len
  pub inside : e.at + e.len ≤ size
  pub known : e.target ≤ 2
  pub stored : e.target ≡ 0 → e.target_at + e.len ≤ CHUNK * n
  pub symbolic : 0 < e.target → e.target_at ≡ e.at

-- the entries are such runs, sorted by their places in the image, and no two share a byte
pub record AreImageRuns (size n : ℕ) (entries : List Entry) : Type 0 where
  pub each : All (IsImageRun size n) entries
  pub sorted : (k : ℕ) (d : Entry) → k + 1 < length entries → (slice_index_or entries k d).at + (slice_index_or entries k d).len ≤ (slice_index_or entries (k + 1) d).at

-- a stream of n chunks stands in a folder: each of its bevvies is there, as long as its chunks are, and they stand in it one
-- after another
pub record IsStreamIn (held : Held) (stream : List ℕ) (n : ℕ) : Type 0 where
  pub bevvy : (b : ℕ) → b < bevvy_count n → IsSomeAnd (get held (bevvy_name stream b)) (λ bytes. length bytes ≡ CHUNK * chunks_in n b)
  pub index : (b : ℕ) → b < bevvy_count n → bytes_of held (index_name stream b) ≡ flat_map point_bytes (full_points (chunks_in n b))

-- a folder has the stream of n chunks of a volume, its map with these entries, and its targets
pub record IsStored (held : Held) (uuid : List ℕ) (n : ℕ) (entries : List Entry) : Type 0 where
  pub stream : IsStreamIn held (stream_urn uuid) n
  pub map : entries_of (bytes_of held (map_name (image_urn uuid))) ≡ entries
  pub targets : bytes_of held (idx_name (image_urn uuid)) ≡ targets_text (stream_urn uuid)

-- all bytes of an image of a size can be read in their order: its entries are runs over a stream of some chunks, whose
-- bevvies have numbers of eight digits, and a folder that tells has them
pub record IsWalkable (tells : Bool) (held : Held) (uuid : List ℕ) (size : ℕ) (entries : List Entry) : Type 0 where
  pub chunks : ℕ
  pub few : bevvy_count chunks ≤ 100000000
  pub runs : AreImageRuns size chunks entries
  pub stored : IsTrue tells → IsStored held uuid chunks entries

-- n bytes of a stream from a place on (0 stands for a byte that the stream lacks)
abbrev pub stream_bytes : Held → List ℕ → ℕ → ℕ → List ℕ
stream_bytes held stream at n = map (λ j. unwrap_or (stream_byte held stream j) 0) (range_with_len at n)
