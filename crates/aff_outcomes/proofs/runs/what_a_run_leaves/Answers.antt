use Rattle.aff_outcomes.proofs.RunEnds.{opens, whole}
use Rattle.aff_outcomes.proofs.runs.what_a_run_leaves.Goals as goal

pub returns-clause-whole : goal.returns-clause-whole
returns-clause-whole g c = λ ask old new before after status is end told. whole g.row.F.Denot g.row.S.Denot g.row.D.Denot g.row.R.Denot ask old new before after status is end told

pub returns-clause-opens : goal.returns-clause-opens
returns-clause-opens g c = λ ask old new before after status is into v of. opens g.row.F.Denot g.row.S.Denot g.row.D.Denot g.row.R.Denot c.a_folder_that_was_cut_off_opens_in_full_alone.ensures.opens ask old new before after status is into v of
