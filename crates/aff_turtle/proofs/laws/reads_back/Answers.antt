use Rattle.aff_turtle.specs.Written.{written}
use Rattle.aff_turtle.proofs.Again.{read_again}
use Rattle.aff_turtle.proofs.Readings.{given}
use Rattle.aff_turtle.proofs.laws.reads_back.Goals as goal

pub returns : goal.returns
returns c = λ ts h. given (written ts) ts (read_again ts h)
