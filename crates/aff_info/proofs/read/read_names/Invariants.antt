use Rattle.std.proofs.Common.{◌≡◌, drop}
use Rattle.aff_info.specs.Reading.{nothing, runs}
use Rattle.aff_info.proofs.read.read_names.Given as goal

abbrev pub invariant-loop-name : goal.invariant-loop-name
invariant-loop-name l = runs (drop l.name-index l.names) l.triples l.draft ≡ runs l.names l.triples nothing
