use Rattle.std.proofs.Common.{◌≡◌, ◌+◌, ◌<◌, ◌∷◌, [], length, take, sym, ap, subst, ◌∙◌, arith, length-take}
use Rattle.std.specs.List.{range_with_len}
use Rattle.aff_model.specs.Legal.{numbers_of}
use Rattle.aff_chunk.specs.declared.kind.Cut.TheVariants.{Zero}
use Rattle.aff_image.proofs.Counts.{few_numbers}
use Rattle.aff_store.specs.Pieces.{ArePlaces}
use Rattle.aff_store.proofs.Placings.{ArePlaces-next, length-numbers_more}
use Rattle.aff_store.proofs.places.places_of.Goals as goal

pub place_of-place-requires : goal.place_of-place-requires
place_of-place-requires c =
    omega (arith, c.loop-cut.invariant.next, c.loop-cut.invariant.placed.count, few_numbers c.loop-cut.places.items, length-take c.loop-cut.cut-index c.args.cuts.now, c.requires)

pub loop-cut-preserved : goal.loop-cut-preserved
loop-cut-preserved c =
    let cuts = c.args.cuts.now in
    let k = c.loop-cut.cut-index in
    let places = c.loop-cut.places.items in
    let p = c.place_of-place.result.0 in
    let below : c.loop-cut.cut-index < length c.args.cuts.now = omega arith in
    let row : numbers_of (p ∷ []) ≡ range_with_len (c.args.first + length (numbers_of places)) (length (numbers_of (p ∷ []))) =
    c.place_of-place.ensures.numbered ∙ ap (λ n. range_with_len n (length (numbers_of (p ∷ [])))) c.loop-cut.invariant.next in
    record {
      placed = subst (ArePlaces c.args.first (take (k + 1) cuts)) (sym c.in_ok-push.ensures.items) (ArePlaces-next c.args.first cuts k Zero places p below c.loop-cut.invariant.placed c.place_of-place.ensures.kept row);
      next = omega (arith, c.place_of-place.ensures.next, c.loop-cut.invariant.next, length-numbers_more places p, ap (λ v. length (numbers_of v)) c.in_ok-push.ensures.items);
    }
