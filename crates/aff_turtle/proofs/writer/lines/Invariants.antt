use Rattle.std.proofs.Common.{◌≡◌, take}
use Rattle.std.specs.List.{flat_map}
use Rattle.aff_turtle.specs.Written.{line}
use Rattle.aff_turtle.proofs.writer.lines.Given as goal

abbrev pub invariant-loop-triple : goal.invariant-loop-triple
invariant-loop-triple l = l.out.items ≡ flat_map line (take l.triple-index l.triples)
