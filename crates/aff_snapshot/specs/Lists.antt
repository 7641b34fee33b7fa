-- Published lists: which list it is, which pieces it may have, and beginnings of it.
use Rattle.std.specs.Prelude.{ℕ, ◌<◌, ◌∷◌, nat_eq, List, length, map, All, Contains}
use Rattle.std.specs.List.{IsDistinct}
use Rattle.logbook.specs.Pages.{Book}
use base.Stored.{Coded}
use Rattle.aff_model.specs.History.{Part}
use Rattle.aff_model.specs.Plan.{Planned}
use Rattle.aff_snapshot.specs.Codes.{Name, name_of}
use Rattle.aff_snapshot.specs.Numbers.{plan_numbers}

-- which list it is: the book that its log is, and the plan whose extents it is of
pub record ListName : Type 0 where
  pub book : Book
  pub plan : Planned

-- the numbers that name a list
abbrev pub numbers_of : ListName → List ℕ
numbers_of l = l.book.number ∷ l.book.log_name ∷ l.book.cells_name ∷ plan_numbers l.plan

-- a beginning of a list: its pieces, in the order of their publication
pub record Beginning (R : Type 0) : Type 0 where
  pub list : ListName
  pub pieces : List (Part R)

-- no piece of the list is of this piece's extent
abbrev pub IsNew : {R : Type 0} → List (Part R) → Part R → Type 0
IsNew pieces p = ¬ (Contains (map (λ q. q.extent) pieces) p.extent)

-- pieces that a list of the plan may have: each is of an extent of the plan, and no extent stands twice
pub record AreListed (plan : Planned) {R : Type 0} (pieces : List (Part R)) : Type 0 where
  pub planned : All (λ p. p.extent < length plan.extents) pieces
  pub once : IsDistinct nat_eq (map (λ p. p.extent) pieces)

-- every extent of the plan has a piece
abbrev pub HasEvery : Planned → {R : Type 0} → List (Part R) → Type 0
HasEvery plan pieces = (e : ℕ) → e < length plan.extents → Contains (map (λ p. p.extent) pieces) e

-- a beginning of a list by the names of its pieces
pub record Reached : Type 0 where
  pub list : ListName
  pub names : List Name

abbrev pub names_of : {R : Type 0} → Coded R → List (Part R) → List Name
names_of c pieces = map (name_of c) pieces
