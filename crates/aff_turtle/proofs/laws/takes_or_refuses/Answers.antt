use Rattle.aff_turtle.proofs.Readings.{takes_or_refuses}
use Rattle.aff_turtle.proofs.laws.takes_or_refuses.Goals as goal

pub returns : goal.returns
returns c = takes_or_refuses
