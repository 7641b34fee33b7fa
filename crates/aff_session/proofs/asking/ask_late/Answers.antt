use Rattle.std.proofs.Common.{map, arith, sym, subst, ◌∙◌}
use Rattle.std.specs.Arc.{arc_value}
use Rattle.aff_image.specs.Sound.{AreSound}
use Rattle.aff_session.proofs.Growing.{late_step}
use Rattle.aff_session.proofs.Looks.{looked_trans}
use Rattle.aff_session.proofs.asking.ask_late.Goals as goal

pub ask_one_late-requires-clause-sound : goal.ask_one_late-requires-clause-sound
ask_one_late-requires-clause-sound g c κs within =
    let tells = g.F.Receipt.Telling.receipt_tells in
    let told = g.F.Receipt.Telling.told in
    subst (λ p. AreSound g.C.Case.content p tells told (map arc_value c.args.pieces.now)) (sym c.loop-request.invariant.looked.plan) c.requires.sound

pub loop-request-preserved : goal.loop-request-preserved
loop-request-preserved g c =
    let had = c.loop-request.invariant in
    record {
      looked = looked_trans c.args.looker.now c.loop-request.looker c.ask_one_late.new.looker had.looked c.ask_one_late.ensures.looked;
      viewer = c.ask_one_late.ensures.viewer ∙ had.viewer;
      later = omega (arith, had.later, c.ask_one_late.ensures.cause.later);
      answers = late_step c.args.looker.now.plan c.loop-request.looker.plan g.F.Receipt.Telling.receipt_tells g.F.Receipt.Telling.told (map arc_value c.args.pieces.now) c.args.requests.now c.loop-request.request-index _ c.args.answers.now.items c.loop-request.answers.items
          c.ask_one_late.new.answers.items had.looked.plan c.loop-request-test.true had.answers c.in_ok-ask_one_late.ensures.answers;
    }
