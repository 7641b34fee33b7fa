use Rattle.aff_lanes.proofs.Lanes.{below_four}
use Rattle.aff_lanes.proofs.Messages.{text_at}
use Rattle.aff_lanes.proofs.ends.ends_of.Goals as goal

pub returns : goal.returns
returns c =
    let messages = c.args.messages.now in
    below_four _ (rw (text_at messages 0) c.end_of.ensures) (rw (text_at messages 1) c.end_of-2.ensures)
    (rw (text_at messages 2) c.end_of-3.ensures) (rw (text_at messages 3) c.end_of-4.ensures)
