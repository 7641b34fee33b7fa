use Rattle.std.proofs.Common.{ℕ, ◌+◌, List, map, refl, sym, subst, ◌∙◌, arith}
use Rattle.std.specs.Arc.{arc_value}
use Rattle.aff_model.specs.Plan.{Planned}
use Rattle.aff_image.specs.Sound.{AreSound}
use Rattle.aff_examine.specs.Following.{between}
use Rattle.aff_examine.specs.Sights.{IsFold}
use Rattle.aff_examine.proofs.Folding.{fold_more, fold_still, shown_like}
use Rattle.aff_examine.proofs.reader.show_all.Goals as goal

pub loop-shown-init : goal.loop-shown-init
loop-shown-init g c = record {
  plan = refl;
  more = omega arith;
  inside = c.requires.inside;
  fold = fold_still c.args.reader.now.plan g.F.Receipt.Telling.receipt_tells g.F.Receipt.Telling.told _ c.args.shown.now (map arc_value c.args.pieces.now) _;
  ruled = refl;
  printed = refl;
  later = omega arith;
}

pub show-requires-clause-sound : goal.show-requires-clause-sound
show-requires-clause-sound g c κs within =
    subst (λ (plan : Planned). AreSound g.C.Case.content plan g.F.Receipt.Telling.receipt_tells g.F.Receipt.Telling.told (map arc_value c.args.pieces.now)) (sym c.loop-shown.invariant.plan) c.requires.sound

pub returns-in_err-show-clause-fold : goal.returns-in_err-show-clause-fold
returns-in_err-show-clause-fold g c =
    let first = goal.Examiner-dyn g c.args.examiner.now in
    subst (λ (s : List ℕ). IsFold c.args.reader.now.plan g.F.Receipt.Telling.receipt_tells g.F.Receipt.Telling.told (first.rule c.args.examiner.now.1) c.args.shown.now (between c.args.shown.now c.loop-shown.shown (map arc_value c.args.pieces.now)) (first.state c.args.examiner.now.1) s) (sym c.in_err-show.ensures.same) c.loop-shown.invariant.fold

pub loop-shown-preserved : goal.loop-shown-preserved
loop-shown-preserved g c =
    let inv = c.loop-shown.invariant in
    let plan = c.args.reader.now.plan in
    let tells = g.F.Receipt.Telling.receipt_tells in
    let told = g.F.Receipt.Telling.told in
    let pieces = map arc_value c.args.pieces.now in
    let shown = c.in_ok-show.ensures.shown in
    record {
      plan = c.show.ensures.plan ∙ inv.plan;
      more = omega (arith, inv.more);
      inside = omega (arith, c.loop-shown-test.true);
      fold = fold_more plan tells told _ c.args.shown.now c.loop-shown.shown pieces shown.0 _ _ _ inv.more shown.1 inv.fold
          (shown_like tells told plan c.loop-shown.reader.plan _ _ (c.loop-shown.shown + 1) shown.0 _ _ inv.plan inv.ruled shown.2);
      ruled = c.show.ensures.kept.ruled ∙ inv.ruled;
      printed = c.show.ensures.kept.printed ∙ inv.printed;
      later = omega (arith, inv.later, c.in_ok-show.ensures.cause.later);
    }
