use Rattle.std.proofs.Common.{◌-◌, ◌≡◌, ℕ, ◌+◌, ◌<◌, ◌≤◌, IsTrue}
use Rattle.aff_model.specs.Cells.{is_bad_at}
use Rattle.aff_model.specs.History.{publication_of}
use Rattle.aff_analyst.proofs.bad.first_read.Given as goal

abbrev pub invariant-loop-done : goal.invariant-loop-done
invariant-loop-done g l = record {
  inside : l.done ≤ l.len;
  bad : (k : ℕ) → k < l.done → IsTrue (is_bad_at l.extent (publication_of l.piece) (l.at + k));
}

abbrev pub decreases-loop-done : goal.decreases-loop-done
decreases-loop-done g l = l.len - l.done
