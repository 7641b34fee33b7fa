use Rattle.aff_book.proofs.tests.play.Given as goal

-- the run of the book is the one that its start names, with one worker and a folder that never failed
abbrev pub ghosts-run : goal.ghosts-run
ghosts-run g a = record {
  run_plan = a.start.plan;
  run_table = a.start.claims.table.id;
  run_workers = 1;
  run_list = a.start.publisher.list.book;
  run_volume = a.start.volume;
  run_opened = 0;
}
