use Rattle.aff_outcomes.proofs.Answering.{answered}
use Rattle.aff_outcomes.proofs.laws.a_finished_volume_answers.Goals as goal

pub returns : goal.returns
returns c = λ case tells asked m held h left words old new before after status are same still calm is.
    answered c.a_finished_volume_is_as_it_was_acquired.ensures.info c.a_finished_volume_is_as_it_was_acquired.ensures.sound c.a_finished_volume_is_as_it_was_acquired.ensures.content
    c.a_finished_volume_is_as_it_was_acquired.ensures.undamaged c.a_finished_volume_is_whole.ensures.unrefused
    case tells asked m held h left words old new before after are same still calm status is
