use Rattle.std.proofs.Common.{arith, refl}
use Rattle.aff_lanes.proofs.Hasher.{filled}
use Rattle.aff_lanes.proofs.sha256_hasher.Sha256Hasher.fill.Goals as goal

pub returns-clause-held : goal.returns-clause-held
returns-clause-held c = λ m held.
    filled c.args.self.now _ m c.args.bytes.now _ _ _ held (omega arith) refl c.requires c.copy_from_slice.ensures.after refl (omega arith) c.add_groups.ensures
