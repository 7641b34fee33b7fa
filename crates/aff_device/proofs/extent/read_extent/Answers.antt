use Rattle.aff_device.proofs.Wholes.{fits, known, zeros, rose, own_blocks, whole_range}
use Rattle.aff_device.proofs.extent.read_extent.Goals as goal

pub read_part-requires-clause-told : goal.read_part-requires-clause-told
read_part-requires-clause-told g c = own_blocks _ _ _ c.block-block.ensures.0 c.block-block.ensures.1

pub read_part-requires-clause-whole : goal.read_part-requires-clause-whole
read_part-requires-clause-whole g c = whole_range _ _ _ _ c.requires.block c.block-block.ensures.0 c.requires.whole c.requires.whole_len

pub returns-clause-fits : goal.returns-clause-fits
returns-clause-fits g c = λ priority. fits _ _ _ _ _ priority _ _ _ _ _ c.block-block.ensures.0 c.requires.empty c.read_part.auto.buf c.read_part.ensures.read

pub returns-clause-known : goal.returns-clause-known
returns-clause-known g c = known _ _ _ _ _ _ _ _ c.requires.empty c.read_part.ensures.read

pub returns-clause-zero : goal.returns-clause-zero
returns-clause-zero g c = zeros _ _ _ _ _ _ _ _ c.requires.empty c.read_part.ensures.read

pub returns-clause-faults : goal.returns-clause-faults
returns-clause-faults g c = rose _ _ _ _ _ _ _ _ _ c.block-block.ensures.0 c.requires.empty c.read_part.ensures.read
