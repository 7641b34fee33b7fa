use Rattle.std.proofs.Common.{Ok, refl}
use Rattle.aff_info.proofs.Urns.{is_urn_true, urn_fails}
use Rattle.aff_info.proofs.accept.urn.Goals as goal

pub returns-in-Ok : goal.returns-in-Ok
returns-in-Ok c = rw (is_urn_true c.args.text.now c.in-Ok.ensures.urn, c.in-Ok.ensures.text) refl

pub returns-in-Err : goal.returns-in-Err
returns-in-Err c = rw c.error.ensures (urn_fails c.args.name c.args.text.now c.in-Err.fault c.in-Err.ensures.taken)
