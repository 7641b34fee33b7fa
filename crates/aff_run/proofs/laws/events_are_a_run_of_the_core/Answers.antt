use Rattle.aff_run.proofs.laws.events_are_a_run_of_the_core.Goals as goal
use Rattle.aff_run.proofs.CoreRun.{acquired_run}

pub returns : goal.returns
returns c = acquired_run
