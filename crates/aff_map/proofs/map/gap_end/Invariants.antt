use Rattle.std.proofs.Common.{take}
use Rattle.aff_map.specs.Finding.{IsGapEnd}
use Rattle.aff_map.proofs.map.gap_end.Given as goal

abbrev pub invariant-loop-entry : goal.invariant-loop-entry
invariant-loop-entry l = IsGapEnd (take l.entry-index l.entries) l.size l.at l.end
