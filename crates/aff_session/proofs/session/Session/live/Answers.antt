use Rattle.std.proofs.Common.{sym, ap, subst, ◌∙◌}
use Rattle.std.specs.Prelude.{All}
use Rattle.aff_script.specs.Script.{IsRequest}
use Rattle.aff_session.specs.Answers.{live_of}
use Rattle.aff_session.proofs.Requests.{all_live, live_live}
use Rattle.aff_session.proofs.session.Session.live.Goals as goal

pub ask_live-asked-requires-clause-requests : goal.ask_live-asked-requires-clause-requests
ask_live-asked-requires-clause-requests g c κs within =
    let inside = c.self.inside in
    let P = IsRequest inside.looker.plan.size in
    subst (All P) (sym c.live_part-requests.ensures) (all_live P c.deref.result.now (subst (All P) (sym c.deref.ensures.value) c.self.invariant.each))

pub ask_live-asked-requires-clause-live : goal.ask_live-asked-requires-clause-live
ask_live-asked-requires-clause-live g c κs within = ap live_of c.live_part-requests.ensures ∙ live_live c.deref.result.now ∙ sym c.live_part-requests.ensures
