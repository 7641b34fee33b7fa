use Rattle.std.proofs.Common.{◌≡◌, map, sym, ◌∙◌, subst}
use Rattle.std.specs.Arc.{arc_value}
use Rattle.aff_snapshot.specs.Lists.{ListName}
use Rattle.aff_snapshot.specs.Sound.{AreSound}
use Rattle.aff_snapshot.proofs.Beginnings.{prefix_trans}
use Rattle.aff_snapshot.proofs.Plans.{list_tells}
use Rattle.aff_snapshot.proofs.take.take_over.Goals as goal

pub take_one-requires-clause-list : goal.take_one-requires-clause-list
take_one-requires-clause-list g c κs within =
    let mine : ListName = c.args.front.now.list in
    let is : c.in-Some.listed.now.list ≡ mine = list_tells c.in-Some.listed.now.list mine (c.in-Some.ensures ∙ c.requires.list.0) in
    (c.loop-place.invariant.1 ∙ sym is, c.requires.list.1 ∙ sym is)

pub loop-place-preserved : goal.loop-place-preserved
loop-place-preserved g c =
    let taken = c.take_one.ensures in
    let list : c.take_one.new.front.list ≡ c.args.front.now.list = taken.list ∙ c.loop-place.invariant.1 in (
      taken.same,
      list,
      subst (λ (l : ListName). AreSound g.C.Case.content l.plan g.R.Telling.receipt_tells g.R.Telling.told (map arc_value c.take_one.new.pieces.items)) list taken.sound,
      prefix_trans _ _ _ c.loop-place.invariant.3 taken.longer,
      taken.published,
    )

pub returns-then-not-take_one-clause-longer : goal.returns-then-not-take_one-clause-longer
returns-then-not-take_one-clause-longer g c = prefix_trans _ _ _ c.loop-place.invariant.3 c.take_one.ensures.longer
