use Rattle.std.proofs.Common.{refl}
use Rattle.aff_lanes.proofs.sha256_lanes.start.Goals as goal

pub returns : goal.returns
returns c j low = rw (c.splat.ensures j low, c.splat-2.ensures j low, c.splat-3.ensures j low, c.splat-4.ensures j low, c.splat-5.ensures j low, c.splat-6.ensures j low, c.splat-7.ensures j low, c.splat-8.ensures j low) refl
