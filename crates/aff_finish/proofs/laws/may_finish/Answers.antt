use Rattle.aff_finish.proofs.Endings.{finished}
use Rattle.aff_finish.proofs.laws.may_finish.Goals as goal

pub returns : goal.returns
returns c = λ case tells asked readings is_plan are ok small complete entries held runs fit there. finished case tells asked readings is_plan are ok small complete entries held runs fit there
