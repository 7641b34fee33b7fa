-- Who reads pieces whole, as a value.
use Rattle.std.specs.Prelude.{◌≡◌, ℕ, ◌+◌, ◌<◌, ◌≤◌, Bool, List, [], ◌∷◌, length, take, IsTrue, Some, slice_index}
use Rattle.aff_model.specs.declared.extent.Extent.{Extent}
use Rattle.aff_model.specs.Content.{Content}
use Rattle.aff_model.specs.History.{Part, publication_of}
use Rattle.aff_model.specs.Plan.{Planned}
use Rattle.aff_outside.specs.Seen.{IsSeen}
use Rattle.aff_image.specs.Sound.{AreSound}
use Rattle.aff_analyst.specs.Answers.{AreCells}
use Rattle.aff_analyst.specs.Bytes.{IsShown}
use Rattle.aff_examine.specs.Folds.{Rule, Sight}
use Rattle.aff_examine.specs.Sights.{IsSight, IsSightOf, shown_as}

-- the plan, and the peek that it reads with
pub record Reading (P : Type 0) : Type 0 where
  pub plan : Planned
  pub peek : P

-- the first bytes of some are those from an offset on as one piece shows them, each as it is shown; where receipts tell, they are
-- the cells of any content of which the piece is sound
pub record IsGathered (plan : Planned) (tells : Bool) {R : Type 0} (told : R → List ℕ) (p : Part R) (at len : ℕ) (bytes : List ℕ) : Type 0 where
  pub each : (k : ℕ) → k < len → IsShown tells told plan.extents (p ∷ []) (at + k) (slice_index bytes k)
  pub cells : IsTrue tells → (c : Content) → AreSound (Some c) plan tells told (p ∷ []) → AreCells c plan (p ∷ []) at len bytes

-- what is shown of a piece by bytes that begin with its extent's
abbrev pub sight_of : Extent → ℕ → {R : Type 0} → Part R → List ℕ → Sight
sight_of e front p bytes = record { piece = shown_as e front (publication_of p); bytes = take e.len bytes }

-- a piece of an extent was read: the extent's bytes are at the beginning of some, as they may be shown, whatever its place in the
-- list
pub record IsReadIn (block : ℕ) (tells : Bool) {R : Type 0} (told : R → List ℕ) (e : Extent) (p : Part R) (bytes : List ℕ) : Type 0 where
  pub room : e.len ≤ length bytes
  pub sight : (front : ℕ) → IsSight block tells told front e p (sight_of e front p bytes)
  pub seen : (front : ℕ) → IsSeen (shown_as e front (publication_of p)) (take e.len bytes)

-- an examiner was shown a piece: by its rule that makes the one state of the other
pub record IsShownTo (plan : Planned) (tells : Bool) {R : Type 0} (told : R → List ℕ) (rule : Rule) (front : ℕ) (p : Part R) (old new : List ℕ) : Type 0 where
  pub sight : Sight
  pub of : IsSightOf plan tells told front p sight
  pub seen : new ≡ rule old sight.piece sight.bytes
