use Rattle.std.proofs.Common.{refl, slice_index}
use Rattle.md5.proofs.Rounds.{add32_last}
use Rattle.aff_lanes.specs.Lanes.{lane_at}
use Rattle.aff_lanes.proofs.md5_lanes.round_lanes.Goals as goal

pub returns : goal.returns
returns c j h =
    rw (
      c.add-3.ensures j h,
      c.rotated_left.ensures j h,
      c.add-sum.ensures j h,
      c.add-2.ensures j h,
      c.add.ensures j h,
      c.splat.ensures j h,
      add32_last (lane_at c.args.v 0 j) (slice_index c.args.f j) c.args.k (slice_index c.args.word j),
    ) refl
