use Rattle.std.proofs.Common.{sym}
use Rattle.sha1.proofs.Schedule.{rounds_first}
use Rattle.aff_lanes.specs.Lanes.{five, words}
use Rattle.aff_lanes.proofs.Lanes.{slice_index-words}
use Rattle.aff_lanes.proofs.sha1_lanes.first_step.Goals as goal

pub returns : goal.returns
returns c = λ j low b h window held.
    rounds_first b h (words j c.args.w.now) (five j c.args.v) c.args.t _ _ _ c.requires window held
    (sym (slice_index-words c.args.w.now j c.args.t)) (c.ch_lanes.ensures j low) (c.round_lanes.ensures j low)
