use Rattle.std.proofs.Common.{◌≡◌, ◌≤◌, arith, true, Ok, Err}
use Rattle.aff_run.proofs.Learning.{rose_from}
use Rattle.aff_run.proofs.closing.finish_all.Goals as goal

pub returns-clause-cause : goal.returns-clause-cause
returns-clause-cause g c = λ is. rose_from _ _ _ c.requires.later (c.finish_volume.ensures.cause.rose is)

pub returns-clause-later : goal.returns-clause-later
returns-clause-later g c = omega (arith, c.requires.later, c.finish_volume.ensures.cause.later)
