use Rattle.aff_lanes.proofs.Padding.{mark}
use Rattle.aff_lanes.proofs.ends.marked.Goals as goal

pub returns : goal.returns
returns c = mark c.args.rest.now _ c.copy_from_slice.ensures.after c.requires
