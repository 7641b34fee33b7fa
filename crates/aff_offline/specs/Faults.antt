-- The faults of a command: the status and the line of each.
use Rattle.std.specs.Prelude.{ℕ, List, codes}
use Rattle.aff_volume.specs.declared.error.VolumeError.{VolumeError}
use Rattle.aff_volume.specs.declared.error.VolumeError.TheVariants as volumes
use Rattle.aff_volume.specs.declared.error.VolumeReadError.{VolumeReadError}
use Rattle.aff_volume.specs.declared.error.VolumeReadError.TheVariants as reads
use Rattle.aff_offline.specs.Findings.{finding_line}
use Rattle.aff_offline.specs.Refusals.{volume_line}
use Rattle.aff_offline.specs.declared.fault.Fault.{Fault}
use Rattle.aff_offline.specs.declared.fault.Fault.TheVariants.{Usage, Volume, Range, Damaged, Unsound, Folder, Memory}
use Rattle.aff_offline.specs.declared.fault.RangeFault.{RangeFault}
use Rattle.aff_offline.specs.declared.fault.RangeFault.TheVariants.{TooLong, PastEnd}
use Rattle.aff_report.specs.Damage.{damaged_line}

-- a refusal of a folder as a volume is told as what it is; a folder that failed and want of memory are the command's own faults
abbrev pub of_volume : VolumeError → Fault
of_volume volumes.Failed = Folder
of_volume volumes.Memory = Memory
of_volume e = Volume e

abbrev pub of_read : VolumeReadError → Fault
of_read reads.Failed = Folder
of_read reads.Memory = Memory
of_read (reads.Damaged chunk recorded found) = Damaged chunk recorded found

-- the line of a refused range
abbrev pub range_line : RangeFault → List ℕ
range_line TooLong = codes "error read toolong\n"
range_line PastEnd = codes "error read pastend\n"

-- the status of a fault
abbrev pub code_of : Fault → ℕ
code_of Usage = 2
code_of (Range why) = 3
code_of Folder = 6
code_of Memory = 7
code_of (Volume e) = 8
code_of (Damaged chunk recorded found) = 9
code_of (Unsound finding) = 9

-- and its line
abbrev pub line_of : Fault → List ℕ
line_of Usage = codes "error usage\n"
line_of (Range why) = range_line why
line_of Folder = codes "error folder\n"
line_of Memory = codes "error memory\n"
line_of (Volume e) = volume_line e
line_of (Damaged chunk recorded found) = damaged_line chunk recorded found
line_of (Unsound finding) = finding_line finding
