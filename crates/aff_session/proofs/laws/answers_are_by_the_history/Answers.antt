use Rattle.aff_session.proofs.Histories.{answers_by_history}
use Rattle.aff_session.proofs.laws.answers_are_by_the_history.Goals as goal

pub returns : goal.returns
returns g c case plan pieces requests answers sound all = answers_by_history case plan g.R.Telling.receipt_tells g.R.Telling.told pieces requests answers sound all
