use Rattle.std.proofs.Common.{◌≡◌, ℕ, ◌+◌, ◌-◌, ◌<◌, ◌≤◌, Some, length, get_or, IsTrue}
use Rattle.aff_spec.specs.Volumes.{volume_byte}
use Rattle.aff_volume.specs.Image.{named_by}
use Rattle.aff_volume.proofs.linear.fill_buffer.Given as goal

abbrev pub invariant-loop-filled : goal.invariant-loop-filled
invariant-loop-filled g l = record {
  low : l.filled ≤ length l.buffer;
  inside : l.at + l.filled ≤ l.info.image_size;
  bytes : IsTrue g.F.Folder.tells → (k : ℕ) → k < l.filled → volume_byte (g.F.Folder.held l.initial.folder) (named_by l.info) (l.at + k) ≡ Some (get_or l.buffer k 0);
  same : IsTrue g.F.Folder.tells → g.F.Folder.held l.folder ≡ g.F.Folder.held l.initial.folder;
  later : g.F.Folder.folder_faults l.initial.folder ≤ g.F.Folder.folder_faults l.folder;
}

abbrev pub decreases-loop-filled : goal.decreases-loop-filled
decreases-loop-filled g l = length l.initial.buffer - l.filled
