use Rattle.aff_info.proofs.Outcomes.{is_taken, is_told}
use Rattle.aff_info.proofs.read.of_triples.Goals as goal

pub returns-clause-taken : goal.returns-clause-taken
returns-clause-taken c = λ found h. is_taken c.args.triples.now found c.read_all.result c.read_all.ensures.refused h

pub returns-clause-told : goal.returns-clause-told
returns-clause-told c = λ fault h. is_told c.args.triples.now fault c.read_all.result c.read_all.ensures.found h
