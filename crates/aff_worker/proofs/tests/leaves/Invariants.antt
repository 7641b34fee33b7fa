use Rattle.aff_worker.proofs.tests.leaves.Given as goal

-- the table, the list and the folder that were just made
abbrev pub ghosts-run : goal.ghosts-run
ghosts-run g a = record {
  run_plan = a.start.plan;
  run_table = a.start.claims.table.id;
  run_workers = 1;
  run_list = a.start.publisher.list.book;
  run_volume = a.start.volume;
  run_opened = 0;
}
