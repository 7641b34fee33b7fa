use Rattle.aff_volume.proofs.Refused.{whole_refused}
use Rattle.aff_finished.specs.Laws.{found_of}
use Rattle.aff_finished.proofs.Wholes.{is_whole}
use Rattle.aff_finished.proofs.laws.a_finished_volume_is_whole.Goals as goal

pub returns-clause-whole : goal.returns-clause-whole
returns-clause-whole c = λ case tells asked m held h left. is_whole case tells asked m held h left c.written_is_read.ensures.stream

pub returns-clause-unrefused : goal.returns-clause-unrefused
returns-clause-unrefused c = λ case tells asked m held h left e. whole_refused held (found_of asked.uuid m h) e (is_whole case tells asked m held h left c.written_is_read.ensures.stream)
