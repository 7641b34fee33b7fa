use Rattle.std.proofs.Common.{◌≡◌, ℕ, ◌+◌, ◌<◌, List, length, get_or, map, sym, ap, ◌∙◌, subst}
use Rattle.std.specs.List.{All}
use Rattle.std.proofs.lemmas.List.{length_push}
use Rattle.std.proofs.lemmas.List.Elements.{All-push}
use Rattle.aff_map.specs.declared.order.Turn.{Turn}
use Rattle.aff_model.specs.Pieces.{published}
use Rattle.aff_map.specs.Turns.{IsTurnOf}
use Rattle.aff_map.proofs.InOrder.{gathered_more, piece_in_range, turn_of_piece}
use Rattle.aff_map.proofs.order.gathered.Goals as goal

pub bounds-extents-deref : goal.bounds-extents-deref
bounds-extents-deref g c =
    piece_in_range c.args.extents.now c.args.pieces.now c.loop-number.number c.index-pieces-number.result _ c.requires c.loop-number-test.true c.index-pieces-number.is (c.behind-piece.view_is ∙ c.deref.ensures)

pub loop-number-preserved : goal.loop-number-preserved
loop-number-preserved g c =
    let items = c.in_ok-push.ensures.items in
    let turn = turn_of_piece c.args.extents.now c.args.pieces.now c.loop-number.number c.index-pieces-number.result _ (record { at = 0; len = 0; priority = 0 }) c.requires c.loop-number-test.true c.index-pieces-number.is (c.behind-piece.view_is ∙ c.deref.ensures) in
    record {
      count = ap length items ∙ length_push c.loop-number.turns.items _ ∙ ap (λ n. n + 1) c.loop-number.invariant.count;
      numbers = subst (λ (ts : List Turn). (k : ℕ) (d : Turn) → k < length ts → (get_or ts k d).number ≡ k) (sym items)
          (gathered_more c.args.extents.now (map published c.args.pieces.now) c.loop-number.turns.items _ c.loop-number.invariant.numbers (sym c.loop-number.invariant.count));
      each = subst (All (IsTurnOf c.args.extents.now (map published c.args.pieces.now))) (sym items)
          (All-push (IsTurnOf c.args.extents.now (map published c.args.pieces.now)) c.loop-number.turns.items _ c.loop-number.invariant.each turn);
    }
