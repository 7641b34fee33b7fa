use Rattle.std.proofs.Common.{◌≡◌, List, length, get_or, map, sym, subst, arith}
use Rattle.aff_model.specs.History.{publication_of}
use Rattle.aff_fields.specs.declared.entry.Entry.{Entry}
use Rattle.aff_model.specs.Pieces.{published}
use Rattle.aff_model.proofs.Sectors.{sector_plan}
use Rattle.aff_map.proofs.InOrder.{piece_at}
use Rattle.aff_map.proofs.Spots.{AreTurns-read, IsMapOf, IsMapOf-inside, IsMapOf-more, IsMapOf-none, IsMapOf-runs, turn_extent, turn_in_range, turn_mappable}
use Rattle.aff_map.proofs.entries.runs_of.Goals as goal

pub loop-turn-init : goal.loop-turn-init
loop-turn-init g c =
    let are = AreTurns-read c.args.plan.now.extents _ (map published c.args.pieces.now) _ _ c.in_ok-turns.ensures c.extents.ensures.extents c.deref-turn-items.ensures.value in
    subst (λ (es : List Entry). IsMapOf c.args.plan.now.extents (map published c.args.pieces.now) c.deref-turn-items.result.now 0 es) (sym c.new-entries.ensures.items)
    (IsMapOf-none c.args.plan.now.extents (map published c.args.pieces.now) c.deref-turn-items.result.now are)

pub bounds-pieces-turn : goal.bounds-pieces-turn
bounds-pieces-turn g c =
    let are = AreTurns-read c.args.plan.now.extents _ (map published c.args.pieces.now) _ _ c.in_ok-turns.ensures c.extents.ensures.extents c.deref-turn-items.ensures.value in
    turn_in_range published c.args.plan.now.extents c.args.pieces.now (get_or c.deref-turn-items.result.now c.loop-turn.turn-index (record { extent = record { at = 0; len = 0; priority = 0 }; number = 0 })) (are.each c.loop-turn.turn-index _ c.loop-turn-test.true)

pub offset_bounds-pieces-turn : goal.offset_bounds-pieces-turn
offset_bounds-pieces-turn g c =
    let are = AreTurns-read c.args.plan.now.extents _ (map published c.args.pieces.now) _ _ c.in_ok-turns.ensures c.extents.ensures.extents c.deref-turn-items.ensures.value in
    let below = turn_in_range published c.args.plan.now.extents c.args.pieces.now (get_or c.deref-turn-items.result.now c.loop-turn.turn-index (record { extent = record { at = 0; len = 0; priority = 0 }; number = 0 })) (are.each c.loop-turn.turn-index _ c.loop-turn-test.true) in
    omega (arith, below)

pub push_piece-requires-clause-whole : goal.push_piece-requires-clause-whole
push_piece-requires-clause-whole g c =
    let are = AreTurns-read c.args.plan.now.extents _ (map published c.args.pieces.now) _ _ c.in_ok-turns.ensures c.extents.ensures.extents c.deref-turn-items.ensures.value in
    let extent = turn_extent c.args.plan.now.size c.args.plan.now.extents (map published c.args.pieces.now) (get_or c.deref-turn-items.result.now c.loop-turn.turn-index (record { extent = record { at = 0; len = 0; priority = 0 }; number = 0 })) (sector_plan _ _ _ c.extents.ensures.plan) (are.each c.loop-turn.turn-index _ c.loop-turn-test.true) in
    (extent.at_whole, extent.len_whole)

pub push_piece-requires-clause-short : goal.push_piece-requires-clause-short
push_piece-requires-clause-short g c =
    let are = AreTurns-read c.args.plan.now.extents _ (map published c.args.pieces.now) _ _ c.in_ok-turns.ensures c.extents.ensures.extents c.deref-turn-items.ensures.value in
    (turn_extent c.args.plan.now.size c.args.plan.now.extents (map published c.args.pieces.now) (get_or c.deref-turn-items.result.now c.loop-turn.turn-index (record { extent = record { at = 0; len = 0; priority = 0 }; number = 0 })) (sector_plan _ _ _ c.extents.ensures.plan) (are.each c.loop-turn.turn-index _ c.loop-turn-test.true)).short

pub push_piece-requires-clause-fits : goal.push_piece-requires-clause-fits
push_piece-requires-clause-fits g c =
    let are = AreTurns-read c.args.plan.now.extents _ (map published c.args.pieces.now) _ _ c.in_ok-turns.ensures c.extents.ensures.extents c.deref-turn-items.ensures.value in
    let inside = (turn_extent c.args.plan.now.size c.args.plan.now.extents (map published c.args.pieces.now) (get_or c.deref-turn-items.result.now c.loop-turn.turn-index (record { extent = record { at = 0; len = 0; priority = 0 }; number = 0 })) (sector_plan _ _ _ c.extents.ensures.plan) (are.each c.loop-turn.turn-index _ c.loop-turn-test.true)).inside in
    omega (arith, inside, c.size-size.ensures, c.size-size.type_inv)

pub push_piece-requires-clause-mappable : goal.push_piece-requires-clause-mappable
push_piece-requires-clause-mappable g c =
    let are = AreTurns-read c.args.plan.now.extents _ (map published c.args.pieces.now) _ _ c.in_ok-turns.ensures c.extents.ensures.extents c.deref-turn-items.ensures.value in
    let is = are.each c.loop-turn.turn-index (record { extent = record { at = 0; len = 0; priority = 0 }; number = 0 }) c.loop-turn-test.true in
    let below = turn_in_range published c.args.plan.now.extents c.args.pieces.now (get_or c.deref-turn-items.result.now c.loop-turn.turn-index (record { extent = record { at = 0; len = 0; priority = 0 }; number = 0 })) is in
    turn_mappable c.args.plan.now.extents (map published c.args.pieces.now) (get_or c.deref-turn-items.result.now c.loop-turn.turn-index (record { extent = record { at = 0; len = 0; priority = 0 }; number = 0 })) (publication_of c.deref.result.now) c.requires is
    (piece_at c.args.pieces.now _ c.index-pieces-turn.result c.deref.result.now below c.index-pieces-turn.is c.deref.ensures)

pub loop-turn-preserved : goal.loop-turn-preserved
loop-turn-preserved g c =
    let are = AreTurns-read c.args.plan.now.extents _ (map published c.args.pieces.now) _ _ c.in_ok-turns.ensures c.extents.ensures.extents c.deref-turn-items.ensures.value in
    let below = turn_in_range published c.args.plan.now.extents c.args.pieces.now (get_or c.deref-turn-items.result.now c.loop-turn.turn-index (record { extent = record { at = 0; len = 0; priority = 0 }; number = 0 })) (are.each c.loop-turn.turn-index _ c.loop-turn-test.true) in
    IsMapOf-more c.args.plan.now.extents (map published c.args.pieces.now) c.deref-turn-items.result.now c.loop-turn.turn-index (record { extent = record { at = 0; len = 0; priority = 0 }; number = 0 }) (publication_of c.deref.result.now) _ _ are c.loop-turn-test.true
    (piece_at c.args.pieces.now _ c.index-pieces-turn.result c.deref.result.now below c.index-pieces-turn.is c.deref.ensures)
    c.loop-turn.invariant c.in_ok-push_piece.ensures

pub returns-clause-runs : goal.returns-clause-runs
returns-clause-runs g c =
    let are = AreTurns-read c.args.plan.now.extents _ (map published c.args.pieces.now) _ _ c.in_ok-turns.ensures c.extents.ensures.extents c.deref-turn-items.ensures.value in
    let ended : c.loop-turn.turn-index ≡ length c.deref-turn-items.result.now = omega arith in
    let map_of = subst (λ k. IsMapOf c.args.plan.now.extents (map published c.args.pieces.now) c.deref-turn-items.result.now k c.loop-turn.entries.items) ended c.loop-turn.invariant in
    IsMapOf-runs c.args.plan.now.size c.args.plan.now.extents (map published c.args.pieces.now) c.deref-turn-items.result.now c.loop-turn.entries.items (sector_plan _ _ _ c.extents.ensures.plan) are map_of

pub returns-clause-inside : goal.returns-clause-inside
returns-clause-inside g c =
    let are = AreTurns-read c.args.plan.now.extents _ (map published c.args.pieces.now) _ _ c.in_ok-turns.ensures c.extents.ensures.extents c.deref-turn-items.ensures.value in
    let ended : c.loop-turn.turn-index ≡ length c.deref-turn-items.result.now = omega arith in
    let map_of = subst (λ k. IsMapOf c.args.plan.now.extents (map published c.args.pieces.now) c.deref-turn-items.result.now k c.loop-turn.entries.items) ended c.loop-turn.invariant in
    IsMapOf-inside c.args.plan.now.size c.args.plan.now.extents (map published c.args.pieces.now) c.deref-turn-items.result.now c.loop-turn.entries.items (sector_plan _ _ _ c.extents.ensures.plan) are map_of
