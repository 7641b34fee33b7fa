use Rattle.std.proofs.Common.{◌≡◌, take}
use Rattle.aff_info.specs.Reading.{firsts}
use Rattle.aff_info.proofs.read.firsts.Given as goal

abbrev pub invariant-loop-name : goal.invariant-loop-name
invariant-loop-name l = l.places.items ≡ firsts (take l.name-index l.names) l.triples l.draft
