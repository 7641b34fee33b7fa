use Rattle.aff_lanes.proofs.Messages.{first_elements}
use Rattle.aff_lanes.proofs.words.first_four.Goals as goal

pub returns : goal.returns
returns c = first_elements c.args.messages.now _ c.told-messages
