use Rattle.std.proofs.Common.{◌≡◌, ℕ, ◌+◌, ◌-◌, ◌<◌, ◌≤◌, Some, length, get_or, IsTrue}
use Rattle.aff_spec.specs.Streams.{stream_byte}
use Rattle.aff_bevvy.proofs.reader.StreamReader.read_parts.Given as goal

abbrev pub invariant-loop-filled : goal.invariant-loop-filled
invariant-loop-filled g l = record {
  low : l.filled ≤ length l.out;
  bytes : IsTrue g.F.Folder.tells → (k : ℕ) → k < l.filled → stream_byte (g.F.Folder.held l.fn.folder) l.self.stream (l.at + k) ≡ Some (get_or l.out k 0);
  same : IsTrue g.F.Folder.tells → g.F.Folder.held l.folder ≡ g.F.Folder.held l.fn.folder;
  later : g.F.Folder.folder_faults l.fn.folder ≤ g.F.Folder.folder_faults l.folder;
}

abbrev pub decreases-loop-filled : goal.decreases-loop-filled
decreases-loop-filled g l = length l.initial.out - l.filled
