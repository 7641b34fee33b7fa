use Rattle.aff_memory.proofs.Indexes.{IsPast}
use Rattle.aff_memory.proofs.shelf.index_of.Given as goal

abbrev pub invariant-loop-i : goal.invariant-loop-i
invariant-loop-i l = IsPast l.kept l.name l.i
