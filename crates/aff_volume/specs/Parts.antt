-- What is read of a volume beside its metadata.
use Rattle.std.specs.Prelude.{◌≡◌, length, Some}
use Rattle.aff_model.specs.Held.{Held, bytes_of}
use Rattle.aff_spec.specs.Names.{map_name, idx_name}
use Rattle.aff_map.specs.Mapped.{Mapped}
use Rattle.aff_bevvy.specs.Segments.{held_length}
use Rattle.aff_bevvy.specs.Streams.{Sized}
use Rattle.aff_info.specs.declared.info.Info.{Info}
use Rattle.aff_volume.specs.declared.segments.Tables.{Tables}
use Rattle.aff_volume.specs.Opened.{map_in}

-- a map and the lengths of its tables are those of an image in a folder
pub record AreParts (held : Held) (info : Info) (own : Mapped) (tables : Tables) : Type 0 where
  pub map : own ≡ map_in held info
  pub map_len : tables.map_len ≡ length (bytes_of held (map_name info.image))
  pub idx_len : tables.idx_len ≡ length (bytes_of held (idx_name info.image))

-- a reader is that of the stream that metadata name
pub record Reads (reader : Sized) (info : Info) : Type 0 where
  pub stream : reader.stream ≡ info.stream
  pub size : reader.size ≡ info.stream_size

-- the tables of an image have these lengths
pub record HaveLengths (held : Held) (info : Info) (tables : Tables) : Type 0 where
  pub map : held_length held (map_name info.image) ≡ Some tables.map_len
  pub idx : held_length held (idx_name info.image) ≡ Some tables.idx_len
