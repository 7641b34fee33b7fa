-- What the answers of a put say of the book before and after it.
use Rattle.std.specs.Prelude.{◌≡◌, ◌≢◌, ℕ, Bool, true, false, List, [], ◌∷◌, ◌++◌, length, IsTrue}
use Rattle.aff_model.specs.History.{Part}
use Rattle.aff_spec.specs.Appends.{applied}
use Rattle.aff_spec.specs.Bevvies.{more_appends}
use Rattle.aff_extent.specs.Drafts.{Drafted}
use Rattle.aff_store.specs.declared.claim.Claim.{Claim}
use Rattle.aff_store.specs.Pieces.{IsPieceOf, chosen_chunks}
use Rattle.aff_claim.specs.declared.view.BookView.{BookView}
use Rattle.aff_claim.specs.declared.word.Word.{Word}
use Rattle.aff_claim.specs.declared.word.Word.TheVariants.{Claimed}
use Rattle.aff_claim.specs.Steps.{book_looked, published_if}
use Rattle.aff_book.specs.declared.put.Put.{Put}
use Rattle.aff_book.specs.declared.put.Put.TheVariants.{Done, NotYours, Failed, Stopped, Memory}
use Rattle.aff_book.specs.Pages.{Pages}
use Rattle.aff_book.specs.Rule.{IsGoing}

-- the seat after a look that found the claim, and after the publication behind it
abbrev pub found_claim : Claim → BookView → BookView
found_claim claim seat = book_looked seat claim.extent (Claimed claim.claimant)

abbrev pub published_claim : Claim → BookView → BookView
published_claim claim seat = published_if true (found_claim claim seat) claim.extent claim.claimant

-- the piece of the claim stands behind the others, with its chunks behind those of the stream; in the folder, where it tells,
-- their appends were made; and the seat has published the claim
pub record IsAdded (tells : Bool) {R : Type 0} (told : R → List ℕ) (claim : Claim) (d : Drafted) (bytes : List ℕ) (old now : Pages R) : Type 0 where
  pub piece : Part R
  pub is : IsPieceOf claim (length old.stream.chunks) bytes d tells told piece
  pub pieces : now.pieces ≡ old.pieces ++ piece ∷ []
  pub stream : now.stream ≡ record { urn = old.stream.urn; chunks = old.stream.chunks ++ chosen_chunks bytes d.stored; ended = false }
  pub appended : IsTrue tells → now.held ≡ applied old.held (more_appends old.stream.urn old.stream.chunks (chosen_chunks bytes d.stored))
  pub seat : now.seat ≡ published_claim claim old.seat

-- nothing was published, though the look found the claim
pub record IsNotAdded (claim : Claim) {R : Type 0} (old now : Pages R) : Type 0 where
  pub pieces : now.pieces ≡ old.pieces
  pub seat : now.seat ≡ found_claim claim old.seat

-- memory was refused to an earlier put; or to this one
abbrev pub LacksMemory : Bool → Claim → {R : Type 0} → Pages R → Pages R → Type 0
LacksMemory true claim old now = now ≡ old
LacksMemory false claim old now = IsNotAdded claim old now × (now.stopped ≡ false) × (now.memory ≡ true)

-- what each answer says: no two of them say the same of the book before and of what the look found, but for the last three
-- where the book is going and the look finds the claim
abbrev pub Answered : Bool → {R : Type 0} → (R → List ℕ) → Claim → Drafted → List ℕ → Pages R → Pages R → Put → Type 0
Answered tells told claim d bytes old now Stopped = (old.stopped ≡ true) × (now ≡ old)
Answered tells told claim d bytes old now Memory = (old.stopped ≡ false) × LacksMemory old.memory claim old now
Answered tells told claim d bytes old now (NotYours word) = IsGoing old × (word ≢ Claimed claim.claimant) × (now ≡ record old { seat = book_looked old.seat claim.extent word })
Answered tells told claim d bytes old now Failed = IsGoing old × IsNotAdded claim old now × (now.stopped ≡ true) × (now.memory ≡ false)
Answered tells told claim d bytes old now (Done front) = IsGoing old × IsAdded tells told claim d bytes old now × (front ≡ length now.pieces) × IsGoing now
