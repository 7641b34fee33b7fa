use Rattle.aff_lanes.proofs.Copied.{maj_short}
use Rattle.aff_lanes.proofs.sha256_hasher.maj.Goals as goal

pub returns : goal.returns
returns c = maj_short c.args.x c.args.y c.args.z
