use Rattle.std.proofs.Common.{◌≡◌, ◌≤◌, ◌++◌, false, length, take, map}
use Rattle.std.specs.Prelude.{IsTrue}
use Rattle.aff_spec.specs.Appends.{applied}
use Rattle.aff_spec.specs.Bevvies.{more_appends}
use Rattle.aff_store.specs.Pieces.{chosen_chunks}
use Rattle.aff_store.proofs.stream.Stream.append_chosen.Given as goal

abbrev pub invariant-loop-k : goal.invariant-loop-k
invariant-loop-k g l = record {
  count : length l.receipts.items ≡ l.k;
  told : IsTrue g.F.Folder.tells → map g.F.Receipt.Telling.told l.receipts.items ≡ chosen_chunks l.bytes (take l.k l.stored);
  next : l.self ≡ record { urn = l.initial.self.urn; chunks = l.initial.self.chunks ++ chosen_chunks l.bytes (take l.k l.stored); ended = false };
  folder : IsTrue g.F.Folder.tells → g.F.Folder.held l.folder ≡ applied (g.F.Folder.held l.initial.folder) (more_appends l.initial.self.urn l.initial.self.chunks (chosen_chunks l.bytes (take l.k l.stored)));
  later : g.F.Folder.folder_faults l.initial.folder ≤ g.F.Folder.folder_faults l.folder;
}
