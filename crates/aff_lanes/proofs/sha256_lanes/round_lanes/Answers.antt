use Rattle.std.proofs.Common.{refl}
use Rattle.aff_lanes.proofs.sha256_lanes.round_lanes.Goals as goal

pub returns : goal.returns
returns c j low =
    rw (
      c.add-5.ensures j low,
      c.add-4.ensures j low,
      c.add-temp2.ensures j low,
      c.maj_lanes.ensures j low,
      c.big_sigma0_lanes.ensures j low,
      c.add-temp1.ensures j low,
      c.add-3.ensures j low,
      c.splat.ensures j low,
      c.add-2.ensures j low,
      c.ch_lanes.ensures j low,
      c.add.ensures j low,
      c.big_sigma1_lanes.ensures j low,
    ) refl
