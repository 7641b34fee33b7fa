use Rattle.std.proofs.Common.{ap, arith}
use Rattle.aff_model.specs.Plan.{Planned}
use Rattle.aff_session.proofs.Demands.{asked_step}
use Rattle.aff_session.proofs.Growing.{live_step}
use Rattle.aff_session.proofs.Looks.{looked_trans}
use Rattle.aff_session.proofs.asking.ask_live.Goals as goal

pub returns-in_err-ask_one-clause-looked : goal.returns-in_err-ask_one-clause-looked
returns-in_err-ask_one-clause-looked g c = looked_trans c.args.looker.now c.loop-request.looker c.ask_one.new.looker c.loop-request.invariant.looked c.ask_one.ensures.looked

pub loop-request-preserved : goal.loop-request-preserved
loop-request-preserved g c =
    let had = c.loop-request.invariant in
    record {
      looked = looked_trans c.args.looker.now c.loop-request.looker c.ask_one.new.looker had.looked c.ask_one.ensures.looked;
      later = omega (arith, had.later, c.ask_one.ensures.cause.later);
      answers = live_step c.args.looker.now.plan c.loop-request.looker.plan g.F.Receipt.Telling.receipt_tells g.F.Receipt.Telling.told c.loop-request.looker.viewer c.ask_one.new.looker.viewer c.args.requests.now c.loop-request.request-index _ c.loop-request.answers.items
          c.ask_one.new.answers.items had.looked.plan c.requires.live c.loop-request-test.true c.ask_one.ensures.looked.viewer had.answers c.in_ok-ask_one.ensures.answers;
      asked = asked_step c.args.looker.now.plan.extents c.loop-request.looker.plan.extents c.loop-request.looker.raised c.ask_one.new.looker.raised c.args.requests.now c.loop-request.request-index _ (ap (λ (p : Planned). p.extents) had.looked.plan)
          c.loop-request-test.true c.ask_one.ensures.looked.raised had.asked c.in_ok-ask_one.ensures.asked;
    }
