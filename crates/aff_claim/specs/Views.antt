-- What seats know when they are made.
use Rattle.std.specs.Prelude.{ℕ, true, false, [], Option, None, Some}
use Rattle.aff_claim.specs.declared.view.BookView.{BookView}
use Rattle.aff_claim.specs.declared.view.Limits.{Limits}
use Rattle.aff_claim.specs.declared.view.PassView.{PassView}
use Rattle.aff_claim.specs.declared.view.View.{View}

abbrev pub new_book : BookView
new_book = record { made = 0; drawn = None; held = []; out = []; found = [] }

-- a pass with this number, which has done nothing yet
abbrev pub new_pass : ℕ → PassView
new_pass k = record { number = k; mine = []; known = []; raised = []; looked = []; last = record { looked = []; known = [] }; found = [] }

-- the first seat of a table is the book's
abbrev pub first_view : Limits → View
first_view limits = record { extents = limits.extents; workers = limits.workers; is_book = true; book = new_book; pass = new_pass 0 }

-- the number that the book drew last
abbrev pub last_drawn : Option ℕ → ℕ
last_drawn None = 0
last_drawn (Some k) = k

-- a split gives that number to a new pass
abbrev pub given : View → View
given v = record v { book = record v.book { drawn = None } }

abbrev pub newcomer : View → View
newcomer v = record v { is_book = false; book = new_book; pass = new_pass (last_drawn v.book.drawn) }
