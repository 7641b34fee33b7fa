use Rattle.aff_finish.proofs.Endings.{stopped}
use Rattle.aff_finish.proofs.laws.may_stop.Goals as goal

pub returns : goal.returns
returns c = λ case tells asked readings is_plan are ok. stopped case tells asked readings is_plan are
