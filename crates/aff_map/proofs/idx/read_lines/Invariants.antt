use Rattle.aff_map.proofs.Lines.{AreRead}
use Rattle.aff_map.proofs.idx.read_lines.Given as goal

abbrev pub invariant-loop-line : goal.invariant-loop-line
invariant-loop-line l = AreRead (λ x. x.now) l.stream l.yielded l.targets.items
