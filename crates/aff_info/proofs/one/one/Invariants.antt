use Rattle.std.proofs.Common.{take, get_or}
use Rattle.aff_turtle.specs.Triples.{Fact}
use Rattle.aff_info.specs.Table.{fits}
use Rattle.aff_info.proofs.Ones.{AllSame}
use Rattle.aff_info.proofs.one.one.Given as goal

abbrev pub invariant-loop-triple : goal.invariant-loop-triple
invariant-loop-triple l = (d : Fact) → AllSame (fits l.name l.draft) (get_or l.triples l.first d) (take l.triple-index l.triples)
