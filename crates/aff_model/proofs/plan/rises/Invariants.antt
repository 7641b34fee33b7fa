use Rattle.aff_model.proofs.Index.{Rises}
use Rattle.aff_model.proofs.plan.rises.Given as goal

abbrev pub invariant-loop-k : goal.invariant-loop-k
invariant-loop-k l = Rises l.extents l.index l.k
