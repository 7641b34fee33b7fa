-- What finishing appends to a folder that has all chunks of a volume, and the hashes that it takes.
use Rattle.std.specs.Prelude.{◌≡◌, ℕ, Bool, List, ◌++◌, length, IsTrue}
use Rattle.std.specs.List.{flat_map}
use Rattle.md5.specs.Md5.{md5}
use Rattle.sha1.specs.Sha1.{sha1}
use Rattle.sha2.specs.Sha256.{sha256}
use Rattle.sha2.specs.Sha512.{sha512}
use Rattle.aff_model.specs.Held.{Held}
use Rattle.aff_fields.specs.declared.entry.Entry.{Entry}
use Rattle.aff_fields.specs.Entry.{entry_bytes}
use Rattle.aff_hash.specs.declared.kind.Digests.{Digests}
use Rattle.aff_spec.specs.Acquired.{end_appends}
use Rattle.aff_spec.specs.Appends.{Append, applied}
use Rattle.aff_spec.specs.Bevvies.{bevvy_count}
use Rattle.aff_spec.specs.Names.{stream_urn, image_urn, map_name, idx_name}
use Rattle.aff_spec.specs.Volumes.{volume_of, volume_bytes, targets_text}
use Rattle.aff_finish.specs.BlockMap.{block_map_digests, block_map_hash}
use Rattle.aff_finish.specs.Container.{container_appends}
use Rattle.aff_finish.specs.Information.{information}
use Rattle.aff_finish.specs.Kept.{HasSegments}
use Rattle.aff_finish.specs.declared.hashes.Hashes.{Hashes}

-- four digests of some bytes
abbrev pub digests_of : List ℕ → Digests
digests_of bytes = record { md5 = md5 bytes; sha1 = sha1 bytes; sha256 = sha256 bytes; sha512 = sha512 bytes }

-- the hashes of a volume in a folder: of all bytes of its image, which are so many, and of its block map over n chunks
abbrev pub hashes_in : Held → List ℕ → ℕ → ℕ → Hashes
hashes_in held uuid size n =
    record { linear = digests_of (volume_bytes held (volume_of uuid) size); block_map = block_map_hash held (stream_urn uuid) (image_urn uuid) (bevvy_count n) }

-- hashes of some bytes and of some digests, which are those of a volume in the folder, where that tells
pub record AreHashesOf (tells : Bool) (held : Held) (uuid : List ℕ) (size n : ℕ) (h : Hashes) : Type 0 where
  pub bytes : List ℕ
  pub digests : List ℕ
  pub linear : h.linear ≡ digests_of bytes
  pub block_map : h.block_map ≡ sha512 digests
  pub told_bytes : IsTrue tells → bytes ≡ volume_bytes held (volume_of uuid) size
  pub told_digests : IsTrue tells → digests ≡ block_map_digests held (stream_urn uuid) (image_urn uuid) (bevvy_count n)

-- the map with these entries, and the list of its targets
abbrev pub map_append : List ℕ → List Entry → Append
map_append uuid entries = (map_name (image_urn uuid), flat_map entry_bytes entries)

abbrev pub idx_append : List ℕ → Append
idx_append uuid = (idx_name (image_urn uuid), targets_text (stream_urn uuid))

-- the folder when the stream is ended, and the map and the list of its targets stand behind it
abbrev pub ended : List ℕ → List (List ℕ) → List Entry → Held → Held
ended uuid chunks entries held = applied held (end_appends uuid chunks entries)

-- the folder has all that the block map hash is taken of
abbrev pub HasEnded : Held → List ℕ → ℕ → List Entry → Type 0
HasEnded held uuid n entries = HasSegments held uuid n (map_append uuid entries) (idx_append uuid)

-- the appends that finish a volume: what ends the stream, the map and the list of its targets, and what the volume then says of
-- itself, with the hashes that the folder has by then
abbrev pub finish_appends : List ℕ → ℕ → List (List ℕ) → List Entry → Held → List Append
finish_appends uuid size chunks entries held =
    end_appends uuid chunks entries
    ++ container_appends uuid (information uuid size (length chunks) (hashes_in (ended uuid chunks entries held) uuid size (length chunks)))
