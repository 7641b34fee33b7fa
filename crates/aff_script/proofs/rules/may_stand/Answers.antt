use Rattle.aff_script.proofs.Sessions.{read_may}
use Rattle.aff_script.proofs.rules.may_stand.Goals as goal

pub returns-in-Read : goal.returns-in-Read
returns-in-Read c = read_may c.args.sessions.now c.args.form c.is_empty.result c.in-Read.is c.is_empty.ensures
