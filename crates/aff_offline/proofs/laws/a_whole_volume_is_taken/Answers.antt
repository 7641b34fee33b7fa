use Rattle.aff_offline.proofs.Wholes.{is_taken}
use Rattle.aff_offline.proofs.laws.a_whole_volume_is_taken.Goals as goal

pub returns : goal.returns
returns c = is_taken
