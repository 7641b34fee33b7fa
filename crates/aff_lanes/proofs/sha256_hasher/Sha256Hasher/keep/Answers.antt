use Rattle.std.proofs.Common.{arith, refl}
use Rattle.aff_lanes.proofs.Hasher.{kept}
use Rattle.aff_lanes.proofs.sha256_hasher.Sha256Hasher.keep.Goals as goal

pub returns : goal.returns
returns c = λ m held. kept c.args.self.now _ m c.args.bytes.now _ _ _ held (omega arith) refl c.requires c.copy_from_slice.ensures.after refl refl refl
