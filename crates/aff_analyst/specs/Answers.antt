-- What a read answers.
use Rattle.std.specs.Prelude.{◌≡◌, ℕ, ◌+◌, ◌<◌, Bool, List, map, Option, Some, IsTrue, slice_index}
use Rattle.aff_model.specs.declared.cell.Run.{Run}
use Rattle.aff_model.specs.Cells.{cell_of}
use Rattle.aff_model.specs.Content.{Content}
use Rattle.aff_model.specs.History.{Part, publication_of}
use Rattle.aff_model.specs.Kinds.{IsAnswer}
use Rattle.aff_model.specs.Plan.{Planned}
use Rattle.aff_spec.specs.Symbols.{fill_of}
use Rattle.aff_image.specs.Sound.{AreSound}
use Rattle.aff_analyst.specs.Bytes.{IsShown}

-- bytes are a content's cells by some pieces, as cells are printed
abbrev pub AreCells : Content → Planned → {R : Type 0} → List (Part R) → ℕ → ℕ → List ℕ → Type 0
AreCells c plan pieces at len bytes = (k : ℕ) → k < len → slice_index bytes k ≡ fill_of (at + k) (cell_of c plan.extents (map publication_of pieces) (at + k))

-- a range is answered by some pieces: its greatest runs of one kind; each byte as it is shown; and where receipts tell,
-- these are the cells of any content of which the pieces are sound
pub record IsReadBy (plan : Planned) (tells : Bool) {R : Type 0} (told : R → List ℕ) (pieces : List (Part R)) (at len : ℕ) (bytes : List ℕ) (runs : List Run) : Type 0 where
  pub answer : IsAnswer plan.extents (map publication_of pieces) at len runs
  pub shown : (k : ℕ) → k < len → IsShown tells told plan.extents pieces (at + k) (slice_index bytes k)
  pub cells : IsTrue tells → (c : Content) → AreSound (Some c) plan tells told pieces → AreCells c plan pieces at len bytes
