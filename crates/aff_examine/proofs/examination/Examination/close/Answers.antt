use Rattle.std.proofs.Common.{◌≡◌, length, map, ◌∙◌, sym, arith}
use Rattle.std.specs.Arc.{arc_value}
use Rattle.std.proofs.lemmas.List.{length-map}
use Rattle.aff_examine.proofs.Goings.{answered, close_folds, no_fault, shown_inside}
use Rattle.aff_examine.proofs.examination.Examination.close.Goals as goal

pub drain-requires-clause-inside : goal.drain-requires-clause-inside
drain-requires-clause-inside g c κs within =
    let pieces = map arc_value c.args.pieces.now in
    let none = no_fault c.args.self.now.fault c.is_some.result c.is_some.ensures c.if-is_some.false in
    let inside = shown_inside c.args.self.now.follower pieces c.requires.inside (c.requires.seen none) in
    omega (arith, inside, length-map c.args.pieces.now arc_value)

pub returns-clause-fold : goal.returns-clause-fold
returns-clause-fold g c well =
    let pieces = map arc_value c.args.pieces.now in
    let none = no_fault c.args.self.now.fault c.is_some.result c.is_some.ensures c.if-is_some.false in
    let all = answered c.drain.result c.err-self.result (c.drain.new.follower.shown ≡ length c.args.pieces.now) c.err-self.ensures.value well c.drain.ensures.all in
    close_folds g.F.Receipt.Telling.receipt_tells g.F.Receipt.Telling.told c.args.self.now.follower c.drain.new.follower pieces _ _ _ c.drain.ensures.on c.requires.inside (c.requires.seen none) (all ∙ sym (length-map c.args.pieces.now arc_value)) c.drain.ensures.fold
