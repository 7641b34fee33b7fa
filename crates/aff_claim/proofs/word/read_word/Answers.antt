use Rattle.std.proofs.Common.{◌-◌, ◌/◌, arith}
use Rattle.aff_claim.proofs.WordLaws.{names_odd, names_even}
use Rattle.aff_claim.proofs.word.read_word.Goals as goal

pub overflow_cast-result : goal.overflow_cast-result
overflow_cast-result c = let small = c.requires ((c.args.found - 1) / 2) (names_odd c.args.found c.if-found-eq0.false c.if-found-eq1.true) in omega arith

pub overflow_cast-result-else-found-eq1 : goal.overflow_cast-result-else-found-eq1
overflow_cast-result-else-found-eq1 c = let small = c.requires ((c.args.found - 2) / 2) (names_even c.args.found c.if-found-eq0.false c.if-found-eq1.false) in omega arith
