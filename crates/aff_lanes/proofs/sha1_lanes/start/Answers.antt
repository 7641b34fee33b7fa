use Rattle.std.proofs.Common.{refl}
use Rattle.aff_lanes.proofs.sha1_lanes.start.Goals as goal

pub returns : goal.returns
returns c j low = rw (c.splat.ensures j low, c.splat-2.ensures j low, c.splat-3.ensures j low, c.splat-4.ensures j low, c.splat-5.ensures j low) refl
