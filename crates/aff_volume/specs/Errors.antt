-- Refusals of the layers below, as refusals of a volume: each is told as what it is, and a failed folder and want of memory
-- are the volume's own.
use Rattle.aff_outside.specs.declared.folder.FolderError.{FolderError}
use Rattle.aff_outside.specs.declared.folder.FolderError.TheVariants as folder
use Rattle.aff_turtle.specs.declared.error.TurtleError.{TurtleError}
use Rattle.aff_turtle.specs.declared.error.TurtleError.TheVariants as turtle
use Rattle.aff_info.specs.declared.error.InfoError.{InfoError}
use Rattle.aff_info.specs.declared.error.InfoError.TheVariants as info
use Rattle.aff_bevvy.specs.declared.error.StreamError.{StreamError}
use Rattle.aff_bevvy.specs.declared.error.StreamError.TheVariants as stream
use Rattle.aff_map.specs.declared.error.MapError.{MapError}
use Rattle.aff_map.specs.declared.error.MapError.TheVariants as map
use Rattle.aff_volume.specs.declared.error.VolumeError.{VolumeError}
use Rattle.aff_volume.specs.declared.error.VolumeReadError.{VolumeReadError}
use Rattle.aff_volume.specs.declared.error.VolumeReadError.TheVariants as reads
use Rattle.aff_volume.specs.declared.error.VolumeError.TheVariants.{Turtle, Info, Stream, Map, Failed, Memory}

abbrev pub of_folder : FolderError → VolumeError
of_folder folder.Failed = Failed
of_folder folder.Memory = Memory

abbrev pub of_turtle : TurtleError → VolumeError
of_turtle turtle.Memory = Memory
of_turtle e = Turtle e

abbrev pub of_info : InfoError → VolumeError
of_info info.Memory = Memory
of_info e = Info e

abbrev pub of_stream : StreamError → VolumeError
of_stream stream.Failed = Failed
of_stream stream.Memory = Memory
of_stream e = Stream e

abbrev pub of_map : MapError → VolumeError
of_map map.Memory = Memory
of_map e = Map e

abbrev pub of_read : FolderError → VolumeReadError
of_read folder.Failed = reads.Failed
of_read folder.Memory = reads.Memory
