use Rattle.std.proofs.Common.{◌-◌, ◌*◌, ◌/◌, ◌%◌, ◌^◌}
use Rattle.aff_lanes.proofs.Lanes.{two_shifts}
use Rattle.aff_lanes.proofs.lane.rotated_left.Goals as goal

pub returns : goal.returns
returns c = two_shifts (λ a n. a * 2 ^ n % 2 ^ 32) (λ a n. a / 2 ^ n) (c.args.k % 32) ((32 - c.args.k % 32) % 32) c.args.x c.fits-x.0
