-- The lines of folders that are refused as volumes. Want of memory and a folder that failed are no refusals: each has its own
-- line.
use Rattle.std.specs.Prelude.{ℕ, List, ◌++◌, codes}
use Rattle.std.specs.Fmt.{decimal}
use Rattle.std.specs.String.{string_bytes}
use Rattle.aff_bevvy.specs.declared.error.StreamError.{StreamError}
use Rattle.aff_bevvy.specs.declared.error.StreamError.TheVariants as stream
use Rattle.aff_info.specs.declared.error.InfoError.{InfoError}
use Rattle.aff_info.specs.declared.error.InfoError.TheVariants as info
use Rattle.aff_info.specs.declared.name.InfoName.{InfoName}
use Rattle.aff_info.specs.declared.name.InfoName.TheVariants as name
use Rattle.aff_map.specs.declared.error.MapError.{MapError}
use Rattle.aff_map.specs.declared.error.MapError.TheVariants as map
use Rattle.aff_turtle.specs.declared.error.TurtleError.{TurtleError}
use Rattle.aff_turtle.specs.declared.error.TurtleError.TheVariants as turtle
use Rattle.aff_volume.specs.declared.error.VolumeError.{VolumeError}
use Rattle.aff_volume.specs.declared.error.VolumeError.TheVariants.{NoInformation, Turtle, Info, NoMap, Stream, BlockHashes, Map, Failed, Memory}

-- the name of a statement in lower case
abbrev pub name_word : InfoName → List ℕ
name_word name.Stream = codes "stream"
name_word name.StreamSize = codes "streamsize"
name_word name.ChunkSize = codes "chunksize"
name_word name.ChunksInSegment = codes "chunksinsegment"
name_word name.Method = codes "method"
name_word name.StreamStored = codes "streamstored"
name_word name.Image = codes "image"
name_word name.ImageSize = codes "imagesize"
name_word name.Dependent = codes "dependent"
name_word name.Gap = codes "gap"
name_word name.ImageStored = codes "imagestored"
name_word name.Md5 = codes "md5"
name_word name.Sha1 = codes "sha1"
name_word name.Sha256 = codes "sha256"
name_word name.Sha512 = codes "sha512"
name_word name.BlockMap = codes "blockmap"

-- the metadata's text is refused
abbrev pub turtle_line : TurtleError → List ℕ
turtle_line (turtle.Syntax line) = codes "error volume turtle syntax " ++ (decimal line ++ codes "\n")
turtle_line (turtle.NoPrefix line) = codes "error volume turtle noprefix " ++ (decimal line ++ codes "\n")
turtle_line (turtle.Unsupported line) = codes "error volume turtle unsupported " ++ (decimal line ++ codes "\n")
turtle_line (turtle.Utf8 at) = codes "error volume turtle utf8 " ++ (decimal at ++ codes "\n")
turtle_line turtle.Memory = codes "error memory\n"

-- its statements are refused
abbrev pub info_line : InfoError → List ℕ
info_line (info.Missing n) = codes "error volume info missing " ++ (name_word n ++ codes "\n")
info_line (info.Twice n) = codes "error volume info twice " ++ (name_word n ++ codes "\n")
info_line (info.BadValue n) = codes "error volume info badvalue " ++ (name_word n ++ codes "\n")
info_line (info.Method iri) = codes "error volume info method " ++ (string_bytes iri ++ codes "\n")
info_line info.Memory = codes "error memory\n"

-- the stream is refused
abbrev pub stream_line : StreamError → List ℕ
stream_line (stream.NoSegment b) = codes "error volume stream nosegment " ++ (decimal b ++ codes "\n")
stream_line (stream.Ragged b) = codes "error volume stream ragged " ++ (decimal b ++ codes "\n")
stream_line (stream.PointPastEnd c) = codes "error volume stream pointpastend " ++ (decimal c ++ codes "\n")
stream_line (stream.PointLength c len) = codes "error volume stream pointlength " ++ (decimal c ++ (codes " " ++ (decimal len ++ codes "\n")))
stream_line stream.Failed = codes "error folder\n"
stream_line stream.Memory = codes "error memory\n"

-- the map is refused
abbrev pub map_line : MapError → List ℕ
map_line (map.Ragged len) = codes "error volume map ragged " ++ (decimal len ++ codes "\n")
map_line (map.Empty e) = codes "error volume map empty " ++ (decimal e ++ codes "\n")
map_line (map.PastEnd e) = codes "error volume map pastend " ++ (decimal e ++ codes "\n")
map_line (map.Overlap e f) = codes "error volume map overlap " ++ (decimal e ++ (codes " " ++ (decimal f ++ codes "\n")))
map_line (map.NoTarget e) = codes "error volume map notarget " ++ (decimal e ++ codes "\n")
map_line (map.BadTarget line) = codes "error volume map badtarget " ++ (decimal line ++ codes "\n")
map_line (map.PastTarget e) = codes "error volume map pasttarget " ++ (decimal e ++ codes "\n")
map_line map.Memory = codes "error memory\n"

-- a folder is refused as a volume
abbrev pub volume_line : VolumeError → List ℕ
volume_line NoInformation = codes "error volume noinformation\n"
volume_line (Turtle e) = turtle_line e
volume_line (Info e) = info_line e
volume_line NoMap = codes "error volume nomap\n"
volume_line (Stream e) = stream_line e
volume_line (BlockHashes b) = codes "error volume blockhashes " ++ (decimal b ++ codes "\n")
volume_line (Map e) = map_line e
volume_line Failed = codes "error folder\n"
volume_line Memory = codes "error memory\n"
