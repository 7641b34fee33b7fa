use Rattle.std.proofs.Common.{length}
use Rattle.aff_device.proofs.part.+read_part.Given as goal

abbrev pub decreases-read_part : goal.decreases-read_part
decreases-read_part g l = length l.buf.now
