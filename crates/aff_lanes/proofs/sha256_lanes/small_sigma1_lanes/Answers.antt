use Rattle.std.proofs.Common.{ℕ, ◌/◌, ◌^◌, ap, arith, bit_xor, slice_index}
use Rattle.aff_lanes.proofs.Lanes.{lane_below}
use Rattle.aff_lanes.proofs.Copied.{rotated_two}
use Rattle.aff_lanes.proofs.sha256_lanes.small_sigma1_lanes.Goals as goal

pub returns : goal.returns
returns c j low =
    let x = slice_index c.args.x j in
    rw (c.xor-2.ensures j low, c.rotated_right-2.ensures j low, c.xor.ensures j low, c.rotated_right.ensures j low, c.shifted_right.ensures j low)
    (ap (λ (y : ℕ). bit_xor y (x / 2 ^ 10)) (rotated_two 32 x 17 2 (omega arith) (lane_below c.args.x j c.fits-x.0 c.fits-x.1 low)))
