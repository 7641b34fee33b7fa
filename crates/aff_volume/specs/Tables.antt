-- Why the tables of an image are refused.
use Rattle.std.specs.Prelude.{⊤}
use Rattle.aff_model.specs.Held.{Held, bytes_of}
use Rattle.aff_spec.specs.Names.{map_name, idx_name}
use Rattle.aff_info.specs.declared.info.Info.{Info}
use Rattle.aff_map.specs.Refusals.{IsMapFault}
use Rattle.aff_volume.specs.declared.error.VolumeError.{VolumeError}
use Rattle.aff_volume.specs.declared.error.VolumeError.TheVariants.{Map, Failed, Memory}

-- they are no map, or a call failed
abbrev pub IsTablesFault : Held → Info → VolumeError → Type 0
IsTablesFault held info (Map e) = IsMapFault (bytes_of held (map_name info.image)) (bytes_of held (idx_name info.image)) info.image_size info.stream info.stream_size e
IsTablesFault held info Failed = ⊤
IsTablesFault held info Memory = ⊤
IsTablesFault held info e = ⊥
