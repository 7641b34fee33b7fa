use Rattle.std.proofs.Common.{◌≡◌, ◌-◌, ◌<◌, ◌≤◌, ◌++◌, length, take, IsTrue}
use Rattle.aff_model.specs.Held.{bytes_of}
use Rattle.aff_finish.proofs.feed.feed_segment.Given as goal

abbrev pub invariant-loop-done : goal.invariant-loop-done
invariant-loop-done g l = record {
  low : l.done ≤ l.len;
  room : 0 < length l.buffer;
  fed : IsTrue g.F.Folder.tells → l.linear ≡ l.initial.linear ++ take l.done (bytes_of (g.F.Folder.held l.initial.folder) l.name);
  same : IsTrue g.F.Folder.tells → g.F.Folder.held l.folder ≡ g.F.Folder.held l.initial.folder;
  later : g.F.Folder.folder_faults l.initial.folder ≤ g.F.Folder.folder_faults l.folder;
}

abbrev pub decreases-loop-done : goal.decreases-loop-done
decreases-loop-done g l = l.len - l.done
