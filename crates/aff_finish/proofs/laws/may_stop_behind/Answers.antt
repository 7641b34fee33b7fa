use Rattle.aff_finish.proofs.Endings.{stopped_behind}
use Rattle.aff_finish.proofs.laws.may_stop_behind.Goals as goal

pub returns : goal.returns
returns c = λ case tells asked readings is_plan are ok small complete entries held runs fit there. stopped_behind case tells asked readings is_plan are ok small complete entries held runs fit there
