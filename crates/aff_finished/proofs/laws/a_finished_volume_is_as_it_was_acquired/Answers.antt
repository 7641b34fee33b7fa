use Rattle.aff_finished.proofs.Agreeing.{is_sound, nowhere, reads, says_the_same}
use Rattle.aff_finished.proofs.laws.a_finished_volume_is_as_it_was_acquired.Goals as goal

pub returns-clause-info : goal.returns-clause-info
returns-clause-info c = λ case tells asked m held h left v is. says_the_same case tells asked m held h left v is

pub returns-clause-sound : goal.returns-clause-sound
returns-clause-sound c = λ case tells asked m held h left v is. is_sound case tells asked m held h left v is

pub returns-clause-content : goal.returns-clause-content
returns-clause-content c = λ case tells asked m held h left v is. reads case tells asked m held h left v is

pub returns-clause-undamaged : goal.returns-clause-undamaged
returns-clause-undamaged c = λ case tells asked m held h left v is. nowhere case tells asked m held h left v is
