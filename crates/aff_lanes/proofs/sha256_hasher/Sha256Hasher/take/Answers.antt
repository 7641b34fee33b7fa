use Rattle.std.proofs.Common.{refl}
use Rattle.aff_lanes.proofs.Hasher.{taken}
use Rattle.aff_lanes.proofs.sha256_hasher.Sha256Hasher.take.Goals as goal

pub returns-clause-held : goal.returns-clause-held
returns-clause-held c = λ m held. taken c.args.self.now _ m c.args.bytes.now held c.requires.edge c.requires.whole refl c.add_groups.ensures
