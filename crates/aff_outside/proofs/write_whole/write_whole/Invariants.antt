use Rattle.aff_outside.proofs.Written.{IsWritten}
use Rattle.aff_outside.proofs.write_whole.write_whole.Given as goal

abbrev pub invariant-loop : goal.invariant-loop
invariant-loop g l = IsWritten (g.W.Write.contents l.initial.writer) (g.W.Write.contents l.writer) l.bytes l.written
