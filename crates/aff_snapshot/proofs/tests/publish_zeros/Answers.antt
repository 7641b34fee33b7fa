use Rattle.std.proofs.Common.{◌+◌, ◌<◌, All, false, map, sym, ap, subst, arith}
use Rattle.std.specs.Prelude.{None}
use Rattle.std.specs.Arc.{arc_value}
use Rattle.std.proofs.lemmas.List.Elements.{All-contains, All-map, All-push}
use Rattle.aff_snapshot.specs.Sound.{IsSoundIn}
use Rattle.aff_snapshot.proofs.Zeros.{by_result, zeros_sound}
use Rattle.aff_snapshot.proofs.tests.publish_zeros.Goals as goal

pub publish-requires-clause-sound : goal.publish-requires-clause-sound
publish-requires-clause-sound g c κs within =
    subst (IsSoundIn None c.args.publisher.now.list.plan false _) (sym c.in-Ok.ensures) (zeros_sound c.args.publisher.now.list.plan _ c.args.extent c.requires.planned c.requires.sectors)

pub publish-requires-clause-once : goal.publish-requires-clause-once
publish-requires-clause-once g c κs within = λ has.
    let below = All-contains (λ n. n < c.args.extent) (map (λ q. q.extent) c.args.publisher.now.pieces) (arc_value c.in-Ok.piece).extent
    (All-map (λ n. n < c.args.extent) (λ q. q.extent) c.args.publisher.now.pieces c.requires.later) has in
    let is = ap (λ q. q.extent) c.in-Ok.ensures in
    omega arith

pub returns-clause-later : goal.returns-clause-later
returns-clause-later g c =
    let is = ap (λ q. q.extent) c.in-Ok.ensures in
    by_result c.publish.result
    (λ front. λ grew. subst (All (λ p. p.extent < c.args.extent + 1)) (sym grew.0)
    (All-push (λ p. p.extent < c.args.extent + 1) c.args.publisher.now.pieces (arc_value c.in-Ok.piece) (λ k d below. let low = c.requires.later k d below in omega arith) (omega arith)))
    (λ e. λ same. subst (All (λ p. p.extent < c.args.extent + 1)) (sym same) (λ k d below. let low = c.requires.later k d below in omega arith))
    c.publish.ensures.pieces
