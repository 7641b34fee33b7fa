use Rattle.std.proofs.Common.{◌≡◌, ◌-◌, ◌<◌, ◌≤◌, ◌++◌, length, IsTrue}
use Rattle.aff_spec.specs.Volumes.{volume_bytes}
use Rattle.aff_volume.specs.Image.{named_by}
use Rattle.aff_volume.proofs.linear.feed_image.Given as goal

abbrev pub invariant-loop-at : goal.invariant-loop-at
invariant-loop-at g l = record {
  low : l.at ≤ l.info.image_size;
  room : 0 < length l.buffer;
  fed : IsTrue g.F.Folder.tells → l.linear ≡ l.initial.linear ++ volume_bytes (g.F.Folder.held l.initial.folder) (named_by l.info) l.at;
  same : IsTrue g.F.Folder.tells → g.F.Folder.held l.folder ≡ g.F.Folder.held l.initial.folder;
  later : g.F.Folder.folder_faults l.initial.folder ≤ g.F.Folder.folder_faults l.folder;
}

abbrev pub decreases-loop-at : goal.decreases-loop-at
decreases-loop-at g l = l.info.image_size - l.at
