use Rattle.std.proofs.Common.{◌≡◌, ℕ, ◌*◌, ◌<◌, ◌≤◌, IsTrue}
use Rattle.aff_model.specs.Plan.{chunk_count}
use Rattle.aff_bevvy.specs.Streams.{IsChunk}
use Rattle.aff_bevvy.proofs.points.check_chunks.Given as goal

abbrev pub invariant-loop-bevvy : goal.invariant-loop-bevvy
invariant-loop-bevvy g l = record {
  chunks : IsTrue g.F.Folder.tells → (c : ℕ) → c < 1024 * l.bevvy → c < chunk_count l.size → IsChunk (g.F.Folder.held l.fn.folder) l.stream l.size c;
  same : IsTrue g.F.Folder.tells → g.F.Folder.held l.folder ≡ g.F.Folder.held l.fn.folder;
  later : g.F.Folder.folder_faults l.fn.folder ≤ g.F.Folder.folder_faults l.folder;
}
