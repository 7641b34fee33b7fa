use Rattle.std.proofs.Common.{◌≡◌, ◌-◌, ◌≤◌, ◌++◌, IsTrue}
use Rattle.aff_spec.specs.Walks.{stream_bytes}
use Rattle.aff_linear.proofs.stored.feed_stored.Given as goal

abbrev pub invariant-loop-done : goal.invariant-loop-done
invariant-loop-done g l = record {
  low : l.done ≤ l.len;
  fed : IsTrue g.F.Folder.tells → l.feeder ≡ l.initial.feeder ++ stream_bytes (g.F.Folder.held l.initial.folder) l.stream l.at l.done;
  same : IsTrue g.F.Folder.tells → g.F.Folder.held l.folder ≡ g.F.Folder.held l.initial.folder;
  later : g.F.Folder.folder_faults l.initial.folder ≤ g.F.Folder.folder_faults l.folder;
}

abbrev pub decreases-loop-done : goal.decreases-loop-done
decreases-loop-done g l = l.len - l.done
