use Rattle.aff_turtle.proofs.Readings.{refuses_once}
use Rattle.aff_turtle.proofs.laws.refuses_once.Goals as goal

pub returns : goal.returns
returns c = refuses_once
