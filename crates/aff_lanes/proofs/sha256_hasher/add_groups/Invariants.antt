use Rattle.std.proofs.Common.{◌≡◌, ◌*◌}
use Rattle.sha2.specs.Sha256.{hash_after}
use Rattle.aff_lanes.proofs.sha256_hasher.add_groups.Given as goal

abbrev pub invariant-groups : goal.invariant-groups
invariant-groups l = l.state ≡ hash_after l.fn.state l.bytes (l.i * 4)
