use Rattle.aff_map.proofs.Overlaps.{Rises}
use Rattle.aff_map.proofs.overlap.rises.Given as goal

abbrev pub invariant-loop-k : goal.invariant-loop-k
invariant-loop-k l = Rises l.entries l.k
