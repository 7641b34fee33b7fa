use Rattle.std.proofs.Common.{map, sym, ap, subst}
use Rattle.std.specs.Arc.{arc_value}
use Rattle.aff_image.specs.Sound.{AreSound}
use Rattle.aff_analyst.specs.Values.{Analysis}
use Rattle.aff_analyst.proofs.Contents.{sound_none}
use Rattle.aff_analyst.proofs.analyst.Analyst.read_all.Goals as goal

pub answer-requires-clause-sound : goal.answer-requires-clause-sound
answer-requires-clause-sound g c κs within =
    let pieces = map arc_value c.args.pieces.now in
    let tells = g.F.Receipt.Telling.receipt_tells in
    let told = g.F.Receipt.Telling.told in
    sound_none g.C.Case.content c.self.inside.plan tells told pieces
    (subst (λ p. AreSound g.C.Case.content p tells told pieces) (sym (ap (λ (a : Analysis _ _). a.plan) c.self.view_is)) c.requires.sound)
