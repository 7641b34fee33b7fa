use Rattle.aff_finished.proofs.Stopped.{names_nothing, opens_in_full}
use Rattle.aff_finished.proofs.laws.a_folder_that_was_cut_off_opens_in_full_alone.Goals as goal

pub returns-clause-metadata : goal.returns-clause-metadata
returns-clause-metadata c = λ uuid size n h ok small few cut more e found is. names_nothing uuid size n h ok small few cut more e found is

pub returns-clause-opens : goal.returns-clause-opens
returns-clause-opens c = λ case tells asked m held cut v is. opens_in_full case tells asked m held cut v is
