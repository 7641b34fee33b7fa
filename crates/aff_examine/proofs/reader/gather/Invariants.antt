use Rattle.std.proofs.Common.{◌≡◌, ◌-◌, ◌≤◌, [], ◌∷◌, length, map}
use Rattle.std.specs.Arc.{arc_value}
use Rattle.aff_model.specs.History.{Part}
use Rattle.aff_examine.specs.Reading.{IsGathered}
use Rattle.aff_examine.proofs.reader.gather.Given as goal

abbrev pub invariant-loop-done : goal.invariant-loop-done
invariant-loop-done g l = record {
  inside : l.done ≤ l.len;
  plan : l.analyst.plan ≡ l.initial.analyst.plan;
  count : length l.out ≡ length l.initial.out;
  bytes : (p : Part g.row.F-Receipt.Denot) → map arc_value l.piece ≡ p ∷ [] → IsGathered l.analyst.plan g.F.Receipt.Telling.receipt_tells g.F.Receipt.Telling.told p l.at l.done l.out;
  later : g.F.Peek.Peek.peek_faults l.initial.analyst.peek ≤ g.F.Peek.Peek.peek_faults l.analyst.peek;
}

abbrev pub decreases-loop-done : goal.decreases-loop-done
decreases-loop-done g l = l.len - l.done
