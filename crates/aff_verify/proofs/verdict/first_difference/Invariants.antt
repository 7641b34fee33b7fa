use Rattle.std.proofs.Common.{◌≡◌, ℕ, ◌<◌, ◌≤◌, length, IsTrue}
use Rattle.aff_volume.specs.Agreement.{IsChunkSound}
use Rattle.aff_verify.proofs.verdict.first_difference.Given as goal

abbrev pub invariant-loop-chunk : goal.invariant-loop-chunk
invariant-loop-chunk g l = record {
  room : length l.room ≡ 32768;
  sound : IsTrue g.F.Folder.tells → (k : ℕ) → k < l.chunk → IsChunkSound (g.F.Folder.held l.initial.folder) l.volume.info.stream k;
  same : IsTrue g.F.Folder.tells → g.F.Folder.held l.folder ≡ g.F.Folder.held l.initial.folder;
  later : g.F.Folder.folder_faults l.initial.folder ≤ g.F.Folder.folder_faults l.folder;
}
