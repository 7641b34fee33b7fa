-- What contracts see of a claim table, a pass and the book's seat.
use Rattle.std.specs.Prelude.{◌≡◌, ℕ, ◌+◌, ◌*◌, ◌<◌, ◌≤◌, ◌↔◌, Bool, true, false, List, length, Contains, slice_index, slice_index_or}
use Rattle.atomic_table.specs.Seated.{TableId}
use Rattle.aff_claim.specs.declared.view.BookView.{BookView}
use Rattle.aff_claim.specs.declared.view.PassView.{PassView}
use Rattle.aff_claim.specs.declared.view.View.{View}
use Rattle.aff_claim.specs.declared.word.Word.{Word}
use Rattle.aff_claim.specs.Demands.{Has}
use Rattle.aff_claim.specs.Ranking.{Ranked}
use Rattle.aff_claim.specs.Words.{demand_count}

-- which table it is, and for how many extents and workers
pub record Table : Type 0 where
  pub id : TableId
  pub extents : ℕ
  pub workers : ℕ

-- the table, and how urgent its extents are
pub record Claiming : Type 0 where
  pub table : Table
  pub ranking : Ranked

-- a pass: for which claims it is, and what it knows
pub record Passing : Type 0 where
  pub claims : Claiming
  pub view : PassView

-- the book's seat: at which table it is, and what it knows
pub record Booking : Type 0 where
  pub table : Table
  pub view : BookView

-- the claim words of a closed table
pub record LastWords : Type 0 where
  pub words : List Word

-- what a pass remembers beside its seat: a mark for each extent that it knows to be taken; for each demand word bits of
-- extents that it knows; and how many of the most urgent extents it knows
pub record Remembers (ranking : Ranked) (seen : List Bool) (served : List ℕ) (front number : ℕ) (v : View) : Type 0 where
  pub seat : v.is_book ≡ false
  pub numbered : v.pass.number ≡ number
  pub count : length seen ≡ length ranking.priorities
  pub marks : (e : ℕ) → e < length seen → (slice_index_or seen e false ≡ true) ↔ Contains v.pass.known e
  pub words : length served ≡ demand_count (length ranking.priorities)
  pub taken : (d i : ℕ) → d < length served → Has (slice_index served d) i → Contains v.pass.known (64 * d + i)
  pub within : front ≤ length ranking.falling
  pub behind : (i : ℕ) → i < front → Contains v.pass.known (slice_index ranking.falling i)
