use Rattle.aff_lanes.proofs.Messages.{last_elements}
use Rattle.aff_lanes.proofs.words.last_four.Goals as goal

pub returns : goal.returns
returns c = last_elements c.args.messages.now _ c.told-messages
