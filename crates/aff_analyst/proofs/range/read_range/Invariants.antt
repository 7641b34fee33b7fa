use Rattle.std.proofs.Common.{◌≡◌, ℕ, ◌+◌, ◌-◌, ◌%◌, ◌<◌, ◌≤◌, length, take, map}
use Rattle.std.specs.Arc.{arc_value}
use Rattle.aff_model.specs.History.{publication_of}
use Rattle.aff_model.specs.Kinds.{kind_at}
use Rattle.aff_analyst.specs.Bytes.{IsShown}
use Rattle.aff_analyst.specs.Reads.{IsReadTo}
use Rattle.aff_analyst.proofs.range.read_range.Given as goal

abbrev pub invariant-loop-done : goal.invariant-loop-done
invariant-loop-done g l = record {
  inside : l.done ≤ l.len;
  whole : l.len ≡ length l.initial.out;
  count : length l.out ≡ length l.initial.out;
  room : length l.buffer ≡ 32768;
  met : 0 < l.done → l.done < l.len → (l.at + l.done) % 512 ≡ 0;
  start : l.done ≡ 0 → l.runs ≡ l.initial.runs;
  read : IsReadTo (kind_at l.plan.extents (map publication_of (map arc_value l.pieces))) (IsShown g.R.Telling.receipt_tells g.R.Telling.told l.plan.extents (map arc_value l.pieces)) l.at (take l.done l.out) l.initial.runs l.runs;
  later : g.P.Peek.peek_faults l.initial.peek ≤ g.P.Peek.peek_faults l.peek;
}

abbrev pub decreases-loop-done : goal.decreases-loop-done
decreases-loop-done g l = l.len - l.done
