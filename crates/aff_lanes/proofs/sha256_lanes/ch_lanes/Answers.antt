use Rattle.std.proofs.Common.{w32, slice_index}
use Rattle.aff_lanes.proofs.Copied.{ch_short}
use Rattle.aff_lanes.proofs.Lanes.{lane_below}
use Rattle.aff_lanes.proofs.sha256_lanes.ch_lanes.Goals as goal

pub returns : goal.returns
returns c j low =
    rw (c.xor-2.ensures j low, c.and.ensures j low, c.xor.ensures j low)
    (ch_short w32 (slice_index c.args.x j) (slice_index c.args.y j) (slice_index c.args.z j)
    (lane_below c.args.x j c.fits-x.0 c.fits-x.1 low) (lane_below c.args.y j c.fits-y.0 c.fits-y.1 low) (lane_below c.args.z j c.fits-z.0 c.fits-z.1 low))
