use Rattle.std.proofs.Common.{refl}
use Rattle.aff_lanes.proofs.sha1_lanes.round_lanes.Goals as goal

pub returns : goal.returns
returns c j low =
    rw (
      c.add-temp.ensures j low,
      c.add-3.ensures j low,
      c.splat.ensures j low,
      c.add-2.ensures j low,
      c.add.ensures j low,
      c.rotated_left.ensures j low,
      c.rotated_left-2.ensures j low,
    ) refl
