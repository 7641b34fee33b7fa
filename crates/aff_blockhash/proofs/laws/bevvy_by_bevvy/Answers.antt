use Rattle.aff_blockhash.proofs.BevvyByBevvy.{all_appends-stream}
use Rattle.aff_blockhash.proofs.laws.bevvy_by_bevvy.Goals as goal

pub returns : goal.returns
returns c = all_appends-stream
