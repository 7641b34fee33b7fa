use Rattle.std.proofs.Common.{sym, subst}
use Rattle.aff_script.specs.Script.{IsSession}
use Rattle.aff_reader_rows.proofs.session.session_of.Goals as goal

pub new-requires-2-clause-requests : goal.new-requires-2-clause-requests
new-requires-2-clause-requests c κs = subst (λ n. IsSession n c.args.requests.now) (sym c.requires.size) c.requires.requests
