use Rattle.std.proofs.Common.{◌≡◌, ◌*◌, ◌/◌, length, ap, refl, ◌∙◌, arith}
use Rattle.sha2.specs.Sha256.{hash_after}
use Rattle.aff_lanes.proofs.Groups.{next_group}
use Rattle.aff_lanes.proofs.sha256_hasher.add_groups.Goals as goal

pub groups-init : goal.groups-init
unfolding hash_after
groups-init c = refl

pub groups-preserved : goal.groups-preserved
groups-preserved c =
    next_group c.args.state.now c.args.bytes.now _ _ c.groups.i _ _ _ _ c.groups.invariant c.add_blocks.ensures refl refl refl refl (omega arith)

pub returns : goal.returns
returns c =
    let done : c.groups.i * 4 ≡ length c.args.bytes.now / 256 * 4 = omega arith in
    c.groups.invariant ∙ ap (hash_after c.args.state.now c.args.bytes.now) done
