use Rattle.std.proofs.Common.{suc, ◌<◌, All, false, map, sym, ap, subst, arith}
use Rattle.std.specs.Prelude.{None}
use Rattle.std.specs.Arc.{arc_value}
use Rattle.std.proofs.lemmas.List.Elements.{All-contains, All-map, All-push}
use Rattle.aff_snapshot.specs.Sound.{IsSoundIn}
use Rattle.aff_snapshot.proofs.Zeros.{by_result, zeros_sound}
use Rattle.aff_reader_rows.proofs.lists.publish.Goals as goal

pub publish-requires-clause-sound : goal.publish-requires-clause-sound
publish-requires-clause-sound g c κs within =
    subst (IsSoundIn None c.args.publisher.now.list.plan false _) (sym c.in-Ok.ensures) (zeros_sound c.args.publisher.now.list.plan _ c.args.extent c.requires.planned c.requires.sectors)

pub publish-requires-clause-once : goal.publish-requires-clause-once
publish-requires-clause-once g c κs within = λ has.
    let below = All-contains (λ n. n < c.args.extent) (map (λ q. q.extent) c.args.publisher.now.pieces) (arc_value c.in-Ok.piece).extent
    (All-map (λ n. n < c.args.extent) (λ q. q.extent) c.args.publisher.now.pieces c.requires.new) has in
    let is = ap (λ q. q.extent) c.in-Ok.ensures in
    omega arith

pub returns-clause-pieces : goal.returns-clause-pieces
returns-clause-pieces g c =
    let is = ap (λ q. q.extent) c.in-Ok.ensures in
    by_result c.publish.result
    (λ front. λ grew. subst (All (λ p. p.extent < suc c.args.extent)) (sym grew.0)
    (All-push (λ p. p.extent < suc c.args.extent) c.args.publisher.now.pieces (arc_value c.in-Ok.piece) (λ k d below. let low = c.requires.new k d below in omega arith) (omega arith)))
    (λ e. λ same. subst (All (λ p. p.extent < suc c.args.extent)) (sym same) (λ k d below. let low = c.requires.new k d below in omega arith))
    c.publish.ensures.pieces
