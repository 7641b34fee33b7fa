use Rattle.std.proofs.Common.{◌≡◌, ◌≤◌, ◌++◌, IsTrue}
use Rattle.aff_linear.specs.Feeds.{IsBetween, image_range}
use Rattle.aff_linear.proofs.image.feed_entries.Given as goal

abbrev pub invariant-loop-entry : goal.invariant-loop-entry
invariant-loop-entry g l = record {
  between : IsBetween l.entries l.entry-index l.at;
  inside : l.at ≤ l.size;
  fed : IsTrue g.F.Folder.tells → l.feeder ≡ l.initial.feeder ++ image_range (g.F.Folder.held l.initial.folder) l.stream l.entries 0 l.at;
  same : IsTrue g.F.Folder.tells → g.F.Folder.held l.folder ≡ g.F.Folder.held l.initial.folder;
  later : g.F.Folder.folder_faults l.initial.folder ≤ g.F.Folder.folder_faults l.folder;
}
