use Rattle.std.proofs.Common.{◌≡◌, ◌<◌, ◌≤◌, ◌++◌, length, IsTrue}
use Rattle.aff_finish.specs.BlockMap.{block_hashes}
use Rattle.aff_finish.specs.Kept.{kept_name}
use Rattle.aff_finish.proofs.block_map.feed_bevvies.Given as goal

abbrev pub invariant-loop-bevvy : goal.invariant-loop-bevvy
invariant-loop-bevvy g l = record {
  room : 0 < length l.buffer;
  fed : IsTrue g.F.Folder.tells → l.inner ≡ l.initial.inner ++ block_hashes (kept_name l.kept) (g.F.Folder.held l.initial.folder) l.stream l.bevvy;
  same : IsTrue g.F.Folder.tells → g.F.Folder.held l.folder ≡ g.F.Folder.held l.initial.folder;
  later : g.F.Folder.folder_faults l.initial.folder ≤ g.F.Folder.folder_faults l.folder;
}
