-- Volumes that are opened.
use Rattle.std.specs.Prelude.{◌≡◌, ℕ, ◌≤◌, List, length, IsSome}
use Rattle.std.specs.FinMap.{get}
use Rattle.aff_model.specs.declared.limits.TheConstants.{MAX_SIZE}
use Rattle.aff_model.specs.Held.{Held, bytes_of}
use Rattle.aff_model.specs.Plan.{chunk_count}
use Rattle.aff_fields.specs.Entry.{entries_of}
use Rattle.aff_spec.specs.Names.{map_name, idx_name}
use Rattle.aff_names.specs.Urn.{HasScheme}
use Rattle.aff_map.specs.Mapped.{Mapped, IsSound}
use Rattle.aff_map.specs.Symbol.{IsSymbolic}
use Rattle.aff_map.specs.Targets.{targets_of}
use Rattle.aff_bevvy.specs.Segments.{held_length}
use Rattle.aff_bevvy.specs.Streams.{IsStream}
use Rattle.aff_info.specs.declared.info.Info.{Info}
use Rattle.aff_info.specs.Found.{Found}
use Rattle.aff_info.specs.Reading.{IsInfo}
use Rattle.aff_turtle.specs.Triples.{Fact}
use Rattle.aff_turtle.specs.Reading.{IsTurtle}
use Rattle.aff_finish.specs.Named.{IsNamed}
use Rattle.aff_volume.specs.Hashed.{AreHashed}

-- a volume as a caller sees it: its metadata, how many statements are kept aside, its map, and how many bytes its map and the
-- list of its targets have
pub record Opened : Type 0 where
  pub info : Info
  pub aside : ℕ
  pub map : Mapped
  pub map_len : ℕ
  pub idx_len : ℕ

-- a text says triples, and these state metadata
pub record IsStated (text : List ℕ) (found : Found) : Type 0 where
  pub facts : List Fact
  pub turtle : IsTurtle text facts
  pub stated : IsInfo facts found

-- an image has a map, and a list of its targets
pub record HasMap (held : Held) (image : List ℕ) : Type 0 where
  pub map : IsSome (get held (map_name image))
  pub idx : IsSome (get held (idx_name image))

-- what metadata name is in a folder: the stream with its indexes, the block hashes of its bevvies, and a map of the image over
-- it
pub record IsThere (held : Held) (info : Info) : Type 0 where
  pub tables : HasMap held info.image
  pub stream : IsStream held info.stream info.stream_size
  pub hashed : AreHashed (held_length held) info.stream (chunk_count info.stream_size)
  pub map : IsSound (bytes_of held (map_name info.image)) (bytes_of held (idx_name info.image)) info.image_size info.stream info.stream_size

-- a folder has a whole volume: it has metadata, and what they name is there
pub record IsWholeVolume (held : Held) (found : Found) : Type 0 where
  pub named : IsNamed held found
  pub there : IsThere held found.info

-- the map of an image, as its segments have it
abbrev pub map_in : Held → Info → Mapped
map_in held info = record {
  entries = entries_of (bytes_of held (map_name info.image));
  targets = targets_of info.stream (bytes_of held (idx_name info.image));
  size = info.image_size;
  stream_size = info.stream_size;
  gap = info.gap;
}

-- a volume is the whole one that a folder has
pub record IsVolumeOf (held : Held) (v : Opened) : Type 0 where
  pub places : List ℕ
  pub whole : IsWholeVolume held (record { info = v.info; aside = places })
  pub aside : v.aside ≡ length places
  pub map : v.map ≡ map_in held v.info
  pub map_len : v.map_len ≡ length (bytes_of held (map_name v.info.image))
  pub idx_len : v.idx_len ≡ length (bytes_of held (idx_name v.info.image))

-- the stream has a URN, sizes are at most 2^44 bytes, and a gap is a symbolic stream
pub record IsFit (info : Info) : Type 0 where
  pub stream : HasScheme info.stream
  pub stream_size : info.stream_size ≤ MAX_SIZE
  pub image_size : info.image_size ≤ MAX_SIZE
  pub gap : IsSymbolic info.gap

-- a map is over the image and the stream that metadata name
pub record IsOver (map : Mapped) (info : Info) : Type 0 where
  pub size : map.size ≡ info.image_size
  pub stream_size : map.stream_size ≡ info.stream_size
  pub gap : map.gap ≡ info.gap
