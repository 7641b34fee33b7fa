use Rattle.aff_turtle.proofs.Readings.{decides}
use Rattle.aff_turtle.proofs.laws.decides.Goals as goal

pub returns : goal.returns
returns c = decides
