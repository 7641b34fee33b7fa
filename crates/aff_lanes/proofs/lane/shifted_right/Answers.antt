use Rattle.std.proofs.Common.{◌/◌, ◌^◌}
use Rattle.aff_lanes.proofs.Lanes.{one_shift}
use Rattle.aff_lanes.proofs.lane.shifted_right.Goals as goal

pub returns : goal.returns
returns c = one_shift (λ a n. a / 2 ^ n) c.args.k c.args.x c.fits-x.0
