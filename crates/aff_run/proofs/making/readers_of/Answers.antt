use Rattle.aff_run.proofs.making.readers_of.Goals as goal

pub returns-in-Ok-clause-followers : goal.returns-in-Ok-clause-followers
returns-in-Ok-clause-followers g c = λ list all. c.in-Ok.ensures.followers list (c.in_ok-sessions.ensures.lists list all)
