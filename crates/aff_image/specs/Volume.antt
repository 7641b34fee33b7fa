-- The volume of an image, up to its map and the list of its targets.
use Rattle.std.specs.Prelude.{◌≡◌, ℕ, ◌↔◌, List, length, Some, IsSome, Contains}
use Rattle.std.specs.FinMap.{empty, get}
use Rattle.aff_model.specs.Held.{Held}
use Rattle.aff_fields.specs.declared.entry.Entry.{Entry}
use Rattle.aff_spec.specs.Acquired.{volume_appends, segment_names}
use Rattle.aff_spec.specs.Appends.{Append, applied}
use Rattle.aff_spec.specs.BlockHashes.{HasBlockHashes}
use Rattle.aff_spec.specs.Names.{stream_urn}
use Rattle.aff_spec.specs.Runs.{AreGreatestRuns}
use Rattle.aff_spec.specs.Symbols.{fill_of}
use Rattle.aff_spec.specs.Volumes.{volume_of, volume_cell, volume_byte}
use Rattle.aff_image.specs.Image.{Image, acquired_content, image_spot}

-- the appends of an image whose map has these entries: the stream bevvy by bevvy, the map, and the list of targets
abbrev pub image_appends : List ℕ → Image → List Entry → List Append
image_appends uuid m entries = volume_appends uuid m.chunks entries

-- an image reads from a folder as what was acquired, as cell and as byte, and each stored chunk has its block hashes
pub record IsReadable (uuid : List ℕ) (m : Image) (held : Held) : Type 0 where
  pub cells : (i : ℕ) → volume_cell held (volume_of uuid) i ≡ Some (acquired_content m i)
  pub bytes : (i : ℕ) → volume_byte held (volume_of uuid) i ≡ Some (fill_of i (acquired_content m i))
  pub blocks : HasBlockHashes held (stream_urn uuid) (length m.chunks)

-- the folder is the volume of an image: made by its appends, with the greatest runs of its places as entries; with these
-- segments and no other; and the image can be read from it
pub record IsVolume (uuid : List ℕ) (m : Image) (held : Held) : Type 0 where
  pub entries : List Entry
  pub runs : AreGreatestRuns (image_spot m) entries
  pub made : held ≡ applied empty (image_appends uuid m entries)
  pub segments : (name : List ℕ) → IsSome (get held name) ↔ Contains (segment_names uuid (length m.chunks)) name
  pub readable : IsReadable uuid m held
