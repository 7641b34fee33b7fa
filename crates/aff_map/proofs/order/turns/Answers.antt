use Rattle.std.proofs.Common.{map, rules}
use Rattle.std.proofs.lemmas.List.Sorted.{IsNonDecreasingBy-from_sort_by_key}
use Rattle.aff_map.specs.declared.order.Turn.{Turn}
use Rattle.aff_model.specs.Pieces.{published}
use Rattle.aff_map.proofs.InOrder.{AreTurns-from_sort}
use Rattle.aff_map.proofs.order.turns.Goals as goal

pub returns : goal.returns
returns g c =
    AreTurns-from_sort c.args.extents.now (map published c.args.pieces.now) c.in_ok-turns.turns.items _ c.requires.mappable c.requires.apart c.requires.some c.in_ok-turns.ensures c.in_ok-sort_by_key.ensures.permutation
    (IsNonDecreasingBy-from_sort_by_key (λ (t : Turn). t.extent.at) _ c.in_ok-sort_by_key.ensures.sorted (λ a r q k. search rules))
