use Rattle.std.proofs.Common.{◌≡◌, ℕ, ◌+◌, ◌-◌, ◌%◌, ◌<◌, ◌≤◌, length, take, get_or}
use Rattle.aff_analyst.specs.Bytes.{Shows}
use Rattle.aff_analyst.specs.Reads.{IsReadTo, kind_in}
use Rattle.aff_analyst.proofs.sectors.mark.Given as goal

abbrev pub invariant-loop-done : goal.invariant-loop-done
invariant-loop-done g l = record {
  inside : l.done ≤ l.len;
  whole : l.len ≡ length l.initial.out;
  count : length l.out ≡ length l.initial.out;
  met : 0 < l.done → l.done < l.len → (l.at + l.done) % 512 ≡ 0;
  start : l.done ≡ 0 → l.runs ≡ l.initial.runs;
  read : IsReadTo (kind_in l.extent l.piece) (Shows g.R.Telling.receipt_tells g.R.Telling.told l.extent l.piece) l.at (take l.done l.out) l.initial.runs l.runs;
  rest : (k : ℕ) → l.done ≤ k → get_or l.out k 0 ≡ get_or l.initial.out k 0;
}

abbrev pub decreases-loop-done : goal.decreases-loop-done
decreases-loop-done g l = l.len - l.done
