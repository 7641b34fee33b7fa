use Rattle.aff_lanes.proofs.Messages.{eight_of_one_length}
use Rattle.aff_lanes.proofs.tests.eight_messages.Goals as goal

pub returns : goal.returns
returns c =
    eight_of_one_length c.args.len _ _ _ _ _ _ _ _ c.part.ensures c.part-2.ensures c.part-3.ensures c.part-4.ensures
    c.part-5.ensures c.part-6.ensures c.part-7.ensures c.part-8.ensures
