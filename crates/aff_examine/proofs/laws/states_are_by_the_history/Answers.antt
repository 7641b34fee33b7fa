use Rattle.aff_examine.proofs.Histories.{has_examined}
use Rattle.aff_examine.proofs.laws.states_are_by_the_history.Goals as goal

pub returns : goal.returns
returns g c = λ case plan pieces rule from state. has_examined case plan g.R.Telling.receipt_tells g.R.Telling.told pieces rule from state
