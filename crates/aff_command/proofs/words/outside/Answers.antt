use Rattle.std.proofs.Common.{map}
use Rattle.aff_command.proofs.NoMachine.{for_none}
use Rattle.aff_command.proofs.words.outside.Goals as goal

pub returns-in-None-clause-none : goal.returns-in-None-clause-none
returns-in-None-clause-none c = for_none (map (λ w. w.now) c.args.words.now) c.in_default.ensures.none c.in-None.ensures.none
