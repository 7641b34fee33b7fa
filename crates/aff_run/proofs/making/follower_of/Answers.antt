use Rattle.aff_run.proofs.Watches.{new_made}
use Rattle.aff_run.proofs.making.follower_of.Goals as goal

pub returns-clause-follower : goal.returns-clause-follower
returns-clause-follower g c = new_made c.open.result c.args.plan.now c.args.viewer _ c.open.ensures
