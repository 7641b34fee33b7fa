use Rattle.aff_run.proofs.run.acquire.Given as goal

-- the table, the list and the folder of this run
abbrev pub ghosts-run_named : goal.ghosts-run_named
ghosts-run_named g a = record {
  run_plan = a.plan.now;
  run_table = a.made.claims.table.id;
  run_workers = a.made.claims.table.workers;
  run_list = a.made.publisher.list.book;
  run_volume = a.volume.now;
  run_opened = g.F.Folder.folder_faults a.folder;
}
