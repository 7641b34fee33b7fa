use Rattle.std.proofs.Common.{◌≡◌, ℕ, ◌<◌, length, get_or, map}
use Rattle.std.specs.List.{All}
use Rattle.aff_map.specs.declared.order.Turn.{Turn}
use Rattle.aff_model.specs.Pieces.{published}
use Rattle.aff_map.specs.Turns.{IsTurnOf}
use Rattle.aff_map.proofs.order.gathered.Given as goal

abbrev pub invariant-loop-number : goal.invariant-loop-number
invariant-loop-number g l = record {
  count : length l.turns.items ≡ l.number;
  numbers : (k : ℕ) (d : Turn) → k < length l.turns.items → (get_or l.turns.items k d).number ≡ k;
  each : All (IsTurnOf l.extents (map published l.pieces)) l.turns.items;
}
