use Rattle.std.proofs.Common.{rules}
use Rattle.sha2.specs.Sha256.{hash_after}
use Rattle.aff_lanes.specs.Hasher.{Holds}
use Rattle.aff_lanes.proofs.sha256_hasher.Sha256Hasher.new.Goals as goal

pub returns : goal.returns
unfolding Holds hash_after
returns c = search rules
