use Rattle.std.proofs.Common.{◌≡◌, ℕ, ◌/◌, ◌%◌, ◌++◌, take, drop, sym, ap, subst, ◌∙◌, arith}
use Rattle.aff_model.specs.Held.{bytes_of, IsInside}
use Rattle.aff_spec.specs.Names.{bevvy_name}
use Rattle.aff_spec.proofs.Feeding.{piece_inside, piece_is}
use Rattle.aff_linear.proofs.stored.feed_piece.Goals as goal

pub take_segment-requires-clause-inside : goal.take_segment-requires-clause-inside
take_segment-requires-clause-inside g c lifetimes outlive told =
    let held = g.F.Folder.held c.args.folder.now in
    let name : c.as_str.result.now ≡ bevvy_name c.args.stream.now (c.args.at / 33554432) = c.as_str.ensures.value ∙ c.in-Ok.ensures in
    subst (λ v. IsInside held v (c.args.at % 33554432) c.min-rest.result) (sym name)
    (piece_inside held c.args.stream.now c.requires.inside.chunks (c.requires.inside.there told) c.args.at c.min-rest.result
    (omega (arith, c.min-rest.ensures, c.requires.some))
    (omega (arith, c.min-rest.ensures, c.requires.inside.inside))
    (omega (arith, c.min-rest.ensures)))

pub returns-in-Ok-take_segment-clause-fed : goal.returns-in-Ok-take_segment-clause-fed
returns-in-Ok-take_segment-clause-fed g c told =
    let held = g.F.Folder.held c.args.folder.now in
    let name : c.as_str.result.now ≡ bevvy_name c.args.stream.now (c.args.at / 33554432) = c.as_str.ensures.value ∙ c.in-Ok.ensures in
    c.in-Ok-take_segment.ensures.fed told
    ∙ (λ i. c.args.feeder.now ++ take c.in-Ok-take_segment.count (drop (c.args.at % 33554432) (bytes_of held (name i))))
    ∙ ap (λ v. c.args.feeder.now ++ v) (piece_is held c.args.stream.now c.requires.inside.chunks (c.requires.inside.there told) c.args.at c.in-Ok-take_segment.count
    (omega (arith, c.in-Ok-take_segment.ensures.some))
    (omega (arith, c.in-Ok-take_segment.ensures.few, c.min-rest.ensures, c.requires.inside.inside))
    (omega (arith, c.in-Ok-take_segment.ensures.few, c.min-rest.ensures)))
