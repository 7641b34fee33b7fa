use Rattle.std.proofs.Common.{map, sym, subst}
use Rattle.std.specs.Arc.{arc_value}
use Rattle.aff_image.specs.Sound.{AreSound}
use Rattle.aff_analyst.proofs.Contents.{sound_none}
use Rattle.aff_analyst.proofs.reads.answer_seen.Goals as goal

pub answer-requires-clause-sound : goal.answer-requires-clause-sound
answer-requires-clause-sound g c κs within =
    let pieces = map arc_value c.pieces.result.now in
    let tells = g.R.Telling.receipt_tells in
    let told = g.R.Telling.told in
    let seen = c.args.viewer.now in
    sound_none g.C.Case.content c.args.plan.now tells told pieces
    (subst (λ ps. AreSound g.C.Case.content c.args.plan.now tells told ps) (sym c.pieces.ensures.pieces)
    (subst (λ p. AreSound g.C.Case.content p tells told seen.pieces) (c.requires.list) c.pieces.ensures.sound))
