use Rattle.aff_turtle.proofs.Readings.{says_once}
use Rattle.aff_turtle.proofs.laws.says_once.Goals as goal

pub returns : goal.returns
returns c = says_once
