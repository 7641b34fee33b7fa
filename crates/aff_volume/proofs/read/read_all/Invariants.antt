use Rattle.std.proofs.Common.{◌≡◌, ◌-◌, ◌≤◌, length, IsTrue}
use Rattle.aff_volume.specs.Image.{named_by}
use Rattle.aff_volume.specs.Reading.{AreFirst}
use Rattle.aff_volume.proofs.read.read_all.Given as goal

abbrev pub invariant-loop-filled : goal.invariant-loop-filled
invariant-loop-filled g l = record {
  low : l.filled ≤ length l.out;
  room : length l.chunk ≡ 32768;
  bytes : IsTrue g.F.Folder.tells → AreFirst (g.F.Folder.held l.initial.folder) (named_by l.info) l.at l.filled l.out;
  same : IsTrue g.F.Folder.tells → g.F.Folder.held l.folder ≡ g.F.Folder.held l.initial.folder;
  later : g.F.Folder.folder_faults l.initial.folder ≤ g.F.Folder.folder_faults l.folder;
}

abbrev pub decreases-loop-filled : goal.decreases-loop-filled
decreases-loop-filled g l = length l.initial.out - l.filled
