use Rattle.std.proofs.Common.{refl, sym}
use Rattle.std.proofs.lemmas.List.{take_all}
use Rattle.std.proofs.lemmas.List.Elements.{All-more, All-same}
use Rattle.aff_map.specs.Mappable.{IsNumbered}
use Rattle.aff_map.proofs.tests.are_small.Goals as goal

pub loop-place-preserved : goal.loop-place-preserved
loop-place-preserved c = let a = c.if-not-is_small.ensures in All-more IsNumbered c.args.places.now c.loop-place.place-index _ c.loop-place-test.true c.loop-place.invariant (c.if-not-is_small.ensures refl)

pub returns : goal.returns
returns c = λ _. All-same IsNumbered _ _ (sym (take_all c.loop-place.place-index c.args.places.now c.loop-place-test.false)) c.loop-place.invariant
