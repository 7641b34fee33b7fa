-- Answers by pieces: their digests are those of bytes that were fetched of the pieces' chunks.
use Rattle.std.specs.Prelude.{◌≡◌, ℕ, ◌+◌, ◌<◌, ◌≤◌, Bool, List, length, take, map, All, Option, Some, MatchOption, IsTrue, slice_index, []}
use Rattle.aff_model.specs.Content.{Content}
use Rattle.aff_model.specs.History.{Part, publication_of}
use Rattle.aff_model.specs.Kinds.{IsAnswer}
use Rattle.aff_model.specs.Plan.{Planned}
use Rattle.aff_image.specs.Sound.{AreSound}
use Rattle.aff_snapshot.specs.Lists.{Beginning}
use Rattle.aff_analyst.specs.Answers.{AreCells}
use Rattle.aff_analyst.specs.Bytes.{IsShown}
use Rattle.aff_script.specs.Answered.{Answered}
use Rattle.aff_script.specs.declared.answer.RunLine.{RunLine}
use Rattle.aff_script.specs.declared.script.Request.{Request}
use Rattle.aff_session.specs.Answers.{AreAnswers, AreInRow, IsSumOf, live_of, run_of}

-- bytes from an offset on as pieces show them, each as it is shown; where receipts tell, they are the cells of any content of
-- which the pieces are sound
pub record AreShown (plan : Planned) (tells : Bool) {R : Type 0} (told : R → List ℕ) (pieces : List (Part R)) (at : ℕ) (bytes : List ℕ) : Type 0 where
  pub each : (k : ℕ) → k < length bytes → IsShown tells told plan.extents pieces (at + k) (slice_index bytes k)
  pub cells : IsTrue tells → (c : Content) → AreSound (Some c) plan tells told pieces → AreCells c plan pieces at (length bytes) bytes

-- the digest of a run is that of the bytes that pieces show in its range
pub record IsLineBy (plan : Planned) (tells : Bool) {R : Type 0} (told : R → List ℕ) (pieces : List (Part R)) (l : RunLine) : Type 0 where
  pub bytes : List ℕ
  pub len : length bytes ≡ l.len
  pub shown : AreShown plan tells told pieces l.at bytes
  pub sum : IsSumOf bytes l.kind l.sha256

-- the answer to a read of a range, by the first `front` of some pieces
pub record IsAnsweredBy (plan : Planned) (tells : Bool) {R : Type 0} (told : R → List ℕ) (pieces : List (Part R)) (at len : ℕ) (a : Answered) : Type 0 where
  pub at_is : a.at ≡ at
  pub len_is : a.len ≡ len
  pub front : a.front ≤ length pieces
  pub runs : IsAnswer plan.extents (map publication_of (take a.front pieces)) at len (map run_of a.runs)
  pub in_row : AreInRow at a.runs
  pub lines : All (IsLineBy plan tells told (take a.front pieces)) a.runs

-- the answers of a session by pieces
abbrev pub AreAnsweredBy : Planned → Bool → {R : Type 0} → (R → List ℕ) → List (Part R) → List Request → List Answered → Type 0
AreAnsweredBy plan tells told pieces requests answers = AreAnswers (IsAnsweredBy plan tells told pieces) (length pieces) 0 requests answers

-- the answers of a session before `after`, by what its viewer has seen; without a viewer there are none
abbrev pub AreLive : Planned → Bool → {R : Type 0} → (R → List ℕ) → Option (Beginning R) → List Request → List Answered → Type 0
AreLive plan tells told viewer requests answers = MatchOption viewer (answers ≡ []) (λ v. AreAnsweredBy plan tells told v.pieces (live_of requests) answers)
