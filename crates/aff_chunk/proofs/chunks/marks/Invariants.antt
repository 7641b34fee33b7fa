use Rattle.std.proofs.Common.{take}
use Rattle.aff_chunk.specs.Cut.{AreMarks}
use Rattle.aff_chunk.proofs.chunks.marks.Given as goal

abbrev pub invariant-loop-sector : goal.invariant-loop-sector
invariant-loop-sector l = AreMarks (take l.sector-index l.bad) l.sectors l.marks.items
