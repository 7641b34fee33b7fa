use Rattle.std.proofs.Common.{w32, arith}
use Rattle.aff_lanes.proofs.Copied.{ch_short}
use Rattle.aff_lanes.proofs.sha256_hasher.ch.Goals as goal

pub returns : goal.returns
returns c = ch_short w32 c.args.x c.args.y c.args.z (omega arith) (omega arith) (omega arith)
