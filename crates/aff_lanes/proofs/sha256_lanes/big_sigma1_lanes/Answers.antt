use Rattle.std.proofs.Common.{arith, slice_index}
use Rattle.aff_lanes.proofs.Lanes.{lane_below}
use Rattle.aff_lanes.proofs.Copied.{rotated_three}
use Rattle.aff_lanes.proofs.sha256_lanes.big_sigma1_lanes.Goals as goal

pub returns : goal.returns
returns c j low =
    rw (c.rotated_right-3.ensures j low, c.xor-2.ensures j low, c.rotated_right-2.ensures j low, c.xor.ensures j low, c.rotated_right.ensures j low)
    (rotated_three 32 (slice_index c.args.x j) 6 5 14 (omega arith) (lane_below c.args.x j c.fits-x.0 c.fits-x.1 low))
