use Rattle.aff_top.proofs.Outcome.{outcome_of}
use Rattle.aff_top.proofs.run.run_over_devices.Goals as goal

pub returns-clause-outcome : goal.returns-clause-outcome
returns-clause-outcome g c = outcome_of c.perform-outcome.result.outcome _ _ _ _ _ _ c.perform-outcome.ensures.answer c.tell-status.ensures
