use Rattle.aff_info.proofs.Back.{reads_back}
use Rattle.aff_info.proofs.laws.reads_back.Goals as goal

pub returns : goal.returns
returns c = reads_back
