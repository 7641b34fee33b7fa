-- What contracts see of a book, and the run that it is of.
use Rattle.std.specs.Prelude.{ℕ, Bool, List, Option, length}
use Rattle.atomic_table.specs.Seated.{TableId}
use Rattle.logbook.specs.Pages.{Book}
use Rattle.aff_model.specs.declared.case.Case.{Ghosts as CaseGhosts}
use Rattle.aff_model.specs.declared.case.Named.{Ghosts as NamedGhosts}
use Rattle.aff_model.specs.Content.{Content}
use Rattle.aff_model.specs.Held.{Held}
use Rattle.aff_model.specs.History.{Part}
use Rattle.aff_model.specs.Plan.{Planned}
use Rattle.aff_store.specs.Written.{Written}
use Rattle.aff_claim.specs.Values.{Table}
use Rattle.aff_claim.specs.declared.view.BookView.{BookView}
use Rattle.aff_snapshot.specs.Lists.{ListName}

-- a run: what it is said to read, its plan, its claim table and number of workers, its published list, its volume's UUID, and
-- the folder's count of faults when its book was opened
pub record Run : Type 0 where
  pub case : Option Content
  pub plan : Planned
  pub table : TableId
  pub workers : ℕ
  pub list : Book
  pub volume : List ℕ
  pub opened : ℕ

-- the run that types name
abbrev pub run_of : {C N : Type 0} → CaseGhosts C → NamedGhosts N → Run
run_of c n = record { case = c.content; plan = n.run_plan; table = n.run_table; workers = n.run_workers; list = n.run_list; volume = n.run_volume; opened = n.run_opened }

-- its claim table, and its published list
abbrev pub table_of : Run → Table
table_of run = record { id = run.table; extents = length run.plan.extents; workers = run.workers }

abbrev pub list_of : Run → ListName
list_of run = record { book = run.list; plan = run.plan }

-- a book: what its seat knows; the published pieces; the stream; what the folder holds, and how often it failed; whether a put
-- was answered that it failed, and whether one was answered that memory was refused
pub record Pages (R : Type 0) : Type 0 where
  pub seat : BookView
  pub pieces : List (Part R)
  pub stream : Written
  pub held : Held
  pub faults : ℕ
  pub stopped : Bool
  pub memory : Bool
