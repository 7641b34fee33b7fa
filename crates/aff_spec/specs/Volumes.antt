-- Volumes: what the image of a folder reads as.
use Rattle.std.specs.Prelude.{ℕ, List, ◌++◌, Option, None, Some, slice_get, codes, unwrap_or, map, if◌then◌else◌}
use Rattle.std.specs.Option.{option_map, option_and_then}
use Rattle.std.specs.Str.{bytes_eq}
use Rattle.std.specs.List.{range_with_len}
use Rattle.aff_model.specs.declared.cell.Cell.{Cell}
use Rattle.aff_model.specs.declared.cell.Cell.TheVariants.{Byte, Unreadable, Unknown}
use Rattle.aff_model.specs.Held.{Held, bytes_of}
use Rattle.aff_fields.specs.Entry.{entries_of}
use Rattle.aff_spec.specs.Lines.{lines_of}
use Rattle.aff_spec.specs.Names.{map_name, idx_name, stream_urn, image_urn, zero_iri, unknown_iri, unreadable_iri}
use Rattle.aff_spec.specs.Runs.{Spot, lookup}
use Rattle.aff_spec.specs.Streams.{stream_byte}
use Rattle.aff_spec.specs.Symbols.{unknown_byte, unreadable_byte}

-- what a volume's statements name: its stream, its image, and the stream that the image reads as where its map has no
-- entry
pub record Volume : Type 0 where
  pub stream : List ℕ
  pub image : List ℕ
  pub gap : List ℕ

-- the volume that a uuid names
abbrev pub volume_of : List ℕ → Volume
volume_of uuid = record { stream = stream_urn uuid; image = image_urn uuid; gap = unknown_iri }

-- the list of targets that is written: the stream, Zero and UnreadableData, each with a line feed
unfoldable pub targets_text : List ℕ → List ℕ
targets_text stream = stream ++ (codes "\n" ++ (zero_iri ++ (codes "\n" ++ (unreadable_iri ++ codes "\n"))))

-- a place of a target as a cell, where the target is one
abbrev pub target_cell : Held → Volume → List ℕ → ℕ → Option Cell
target_cell held v target place =
    if bytes_eq target v.stream then option_map Byte (stream_byte held v.stream place)
    else (if bytes_eq target zero_iri then Some (Byte 0)
    else (if bytes_eq target unreadable_iri then Some Unreadable
    else (if bytes_eq target unknown_iri then Some Unknown else None)))

-- the same place as a byte
abbrev pub target_byte : Held → Volume → List ℕ → ℕ → Option ℕ
target_byte held v target place =
    if bytes_eq target v.stream then stream_byte held v.stream place
    else (if bytes_eq target zero_iri then Some 0
    else (if bytes_eq target unreadable_iri then Some (unreadable_byte place)
    else (if bytes_eq target unknown_iri then Some (unknown_byte place) else None)))

-- a spot of the image as a cell, and as a byte: by the target that its list names, or by the gap
abbrev pub spot_cell : Held → Volume → ℕ → Option Spot → Option Cell
spot_cell held v i None = target_cell held v v.gap i
spot_cell held v i (Some s) = option_and_then (λ target. target_cell held v target s.1) (slice_get (lines_of (bytes_of held (idx_name v.image))) s.0)

abbrev pub spot_byte : Held → Volume → ℕ → Option Spot → Option ℕ
spot_byte held v i None = target_byte held v v.gap i
spot_byte held v i (Some s) = option_and_then (λ target. target_byte held v target s.1) (slice_get (lines_of (bytes_of held (idx_name v.image))) s.0)

-- place i of the image, as a cell and as a byte
abbrev pub volume_cell : Held → Volume → ℕ → Option Cell
volume_cell held v i = spot_cell held v i (lookup (entries_of (bytes_of held (map_name v.image))) i)

abbrev pub volume_byte : Held → Volume → ℕ → Option ℕ
volume_byte held v i = spot_byte held v i (lookup (entries_of (bytes_of held (map_name v.image))) i)

-- all bytes of an image of a size, one after another (0 stands for a byte that the volume does not tell)
abbrev pub volume_bytes : Held → Volume → ℕ → List ℕ
volume_bytes held v size = map (λ i. unwrap_or (volume_byte held v i) 0) (range_with_len 0 size)
