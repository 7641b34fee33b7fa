-- The book rule: what holds of a book before and after each call.
use Rattle.std.specs.Prelude.{◌≡◌, ℕ, ◌≤◌, Bool, true, false, List, [], ◌∷◌, ◌++◌, length, map, Contains, IsTrue}
use Rattle.std.specs.FinMap.{empty}
use Rattle.sha2.specs.Sha256.{sha256}
use Rattle.aff_model.specs.Causes.{Rose}
use Rattle.aff_model.specs.Held.{Held}
use Rattle.aff_model.specs.History.{Part, publication_of}
use Rattle.aff_model.specs.Plan.{IsPlan}
use Rattle.aff_spec.specs.Appends.{applied, Reaches}
use Rattle.aff_spec.specs.Bevvies.{written}
use Rattle.aff_spec.specs.Names.{stream_urn}
use Rattle.aff_image.specs.Witnesses.{Witnessed, AreWitnessed, kept_of, kept_chunks}
use Rattle.aff_claim.specs.declared.view.BookView.{BookView}
use Rattle.aff_book.specs.Pages.{Pages, Run}

-- no put was answered that it failed, and none that memory was refused
pub record IsGoing {R : Type 0} (b : Pages R) : Type 0 where
  pub folder : b.stopped ≡ false
  pub memory : b.memory ≡ false

-- a piece was made of a reading: it is its publication, with the SHA-256 of each chunk that it keeps and a receipt of each,
-- which tells the chunk, where it tells
pub record IsMadeOf (tells : Bool) {R : Type 0} (told : R → List ℕ) (r : Witnessed) (p : Part R) : Type 0 where
  pub is : publication_of p ≡ r.published
  pub digests : p.digests ≡ map sha256 (kept_of r)
  pub receipts : length p.receipts ≡ length p.digests
  pub told_chunks : IsTrue tells → map told p.receipts ≡ kept_of r

-- pieces were made of readings, one of each, in their order
abbrev pub AreMadeOf : Bool → {R : Type 0} → (R → List ℕ) → List Witnessed → List (Part R) → Type 0
AreMadeOf tells told [] [] = Unit {0}
AreMadeOf tells told [] (p ∷ pieces) = ⊥
AreMadeOf tells told (r ∷ readings) [] = ⊥
AreMadeOf tells told (r ∷ readings) (p ∷ pieces) = IsMadeOf tells told r p × AreMadeOf tells told readings pieces

-- the seat has published the extents of the pieces, in their order, and holds the claim of each
pub record AreTied (seat : BookView) {R : Type 0} (pieces : List (Part R)) : Type 0 where
  pub out : map (λ p. p.extent) pieces ≡ seat.out
  pub held : (p : Part R) → Contains pieces p → Contains seat.held (p.extent, p.claimant)

-- the appends of the readings were made so far, perhaps with one reading more, of which no piece was made
pub record HasReached (run : Run) (readings : List Witnessed) (held : Held) : Type 0 where
  pub more : List Witnessed
  pub one : length more ≤ 1
  pub are : AreWitnessed run.case run.plan run.workers (readings ++ more)
  pub reached : Reaches empty (written (stream_urn run.volume) (kept_chunks (readings ++ more))) held

-- Readings of the run, which keep the bytes that were read, are those of the pieces. The seat's claims and publications are
-- the pieces'. While the book is going, the stream has the chunks of the readings and no other, and the folder, where it
-- tells, holds what their appends make. And it has stopped only where the folder failed since it was opened.
pub record BookRule (run : Run) (tells : Bool) {R : Type 0} (told : R → List ℕ) (b : Pages R) : Type 0 where
  pub plan : IsPlan run.plan.size run.plan.block run.plan.extents
  pub readings : List Witnessed
  pub are : AreWitnessed run.case run.plan run.workers readings
  pub made : AreMadeOf tells told readings b.pieces
  pub tied : AreTied b.seat b.pieces
  pub stream : IsGoing b → b.stream ≡ record { urn = stream_urn run.volume; chunks = kept_chunks readings; ended = false }
  pub appended : IsGoing b → IsTrue tells → b.held ≡ applied empty (written (stream_urn run.volume) (kept_chunks readings))
  pub reached : IsTrue tells → HasReached run readings b.held
  pub faults : run.opened ≤ b.faults
  pub stopped : b.stopped ≡ true → Rose run.opened b.faults
