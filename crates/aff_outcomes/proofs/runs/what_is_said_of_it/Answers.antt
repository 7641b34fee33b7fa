use Rattle.std.proofs.Common.{refl, inl}
use Rattle.aff_outcomes.proofs.Said.{answered, passed_off}
use Rattle.aff_outcomes.proofs.runs.what_is_said_of_it.Goals as goal

pub returns-clause-whole : goal.returns-clause-whole
returns-clause-whole g c = λ ask old new first last status is end told words before after from to code are same still calm said.
    let volume = c.what_a_run_leaves.ensures.whole ask old new first last status is end told in
    answered words before after from to are still calm g.row.F.Denot g.row.S.Denot g.row.D.Denot g.row.R.Denot c.a_finished_volume_answers.ensures ask old new same code said
    (record { last = new.held; volume = volume; full = inl refl })

pub returns-clause-any : goal.returns-clause-any
returns-clause-any g c = λ ask old new first last status is into words before after from to code are same still calm said.
    passed_off words before after from to are still calm g.row.F.Denot g.row.S.Denot g.row.D.Denot g.row.R.Denot c.a_finished_volume_answers.ensures ask old new same code said
    (λ v of. c.what_a_run_leaves.ensures.opens ask old new first last status is into v of)
