use Rattle.std.proofs.Common.{refl, sym}
use Rattle.sha2.proofs.Schedule256.{rounds_first}
use Rattle.aff_lanes.specs.Lanes.{eight, words}
use Rattle.aff_lanes.proofs.Lanes.{slice_index-words}
use Rattle.aff_lanes.proofs.sha256_lanes.first_step.Goals as goal

pub returns : goal.returns
returns c = λ j low b h window held.
    rounds_first b h (words j c.args.w.now) (eight j c.args.v) c.args.t _ _ _ c.requires window held refl
    (sym (slice_index-words c.args.w.now j c.args.t)) (c.round_lanes.ensures j low)
