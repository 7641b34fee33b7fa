-- What an examiner is shown of pieces: their bytes are fetched from the chunks that they keep.
use Rattle.std.specs.Prelude.{◌≡◌, ℕ, suc, ◌+◌, ◌<◌, Bool, List, [], ◌∷◌, map, length, Some, IsTrue, MatchBool, MatchOption, slice_get, slice_index, if◌then◌else◌}
use Rattle.std.specs.List.{range_with_len}
use Rattle.aff_model.specs.declared.extent.Extent.{Extent}
use Rattle.aff_model.specs.Cells.{is_bad_at}
use Rattle.aff_model.specs.Content.{Content}
use Rattle.aff_model.specs.History.{Part, Published, publication_of}
use Rattle.aff_model.specs.Plan.{Planned}
use Rattle.aff_model.specs.Shown.{Shown}
use Rattle.aff_image.specs.Sound.{IsSound}
use Rattle.aff_analyst.specs.Bytes.{Keeps}
use Rattle.aff_examine.specs.Folds.{Sight, Rule, fold_of}

-- the publication of an extent that is the `front`th of its history, as it is shown
abbrev pub shown_as : Extent → ℕ → Published → Shown
shown_as e front p = record { front = front; extent = p.extent; at = e.at; len = e.len; bad = p.bad }

-- the bytes of an extent by a content, with 0 where its sector could not be read
abbrev pub shown_bytes : Content → Extent → Published → List ℕ
shown_bytes c e p = map (λ i. if is_bad_at e p i then 0 else c.byte i) (range_with_len e.at e.len)

-- a byte of a piece's extent as an examiner sees it: 0 where its sector could not be read, else the byte that the piece keeps
abbrev pub Gives : Bool → {R : Type 0} → (R → List ℕ) → Extent → Part R → ℕ → ℕ → Type 0
Gives tells told e p i byte = MatchBool (is_bad_at e (publication_of p) i) (byte ≡ 0) (Keeps tells told e p i byte)

-- what is shown of a piece of an extent, the `front`th of its list: each byte of the extent; where receipts tell, these are the
-- bytes of any content of which the piece is sound
pub record IsSight (block : ℕ) (tells : Bool) {R : Type 0} (told : R → List ℕ) (front : ℕ) (e : Extent) (p : Part R) (s : Sight) : Type 0 where
  pub piece : s.piece ≡ shown_as e front (publication_of p)
  pub len : length s.bytes ≡ e.len
  pub each : (k : ℕ) → k < e.len → Gives tells told e p (e.at + k) (slice_index s.bytes k)
  pub content : IsTrue tells → (c : Content) → IsSound (Some c) block e tells told p → s.bytes ≡ shown_bytes c e (publication_of p)

-- the same of a piece of a plan
abbrev pub IsSightOf : Planned → Bool → {R : Type 0} → (R → List ℕ) → ℕ → Part R → Sight → Type 0
IsSightOf plan tells told front p s = MatchOption (slice_get plan.extents p.extent) ⊥ (λ e. IsSight plan.block tells told front e p s)

-- what is shown of pieces that stand behind `before` others of their list: each of them once, in order
abbrev pub AreSights : Planned → Bool → {R : Type 0} → (R → List ℕ) → ℕ → List (Part R) → List Sight → Type 0
AreSights plan tells told before [] [] = Unit {0}
AreSights plan tells told before [] (s ∷ sights) = ⊥
AreSights plan tells told before (p ∷ pieces) [] = ⊥
AreSights plan tells told before (p ∷ pieces) (s ∷ sights) = IsSightOf plan tells told (suc before) p s × AreSights plan tells told (suc before) pieces sights

-- a rule makes a state of another by pieces that stand behind `before` others: the fold over what is shown of them
pub record IsFold (plan : Planned) (tells : Bool) {R : Type 0} (told : R → List ℕ) (rule : Rule) (before : ℕ) (pieces : List (Part R)) (from state : List ℕ) : Type 0 where
  pub sights : List Sight
  pub are : AreSights plan tells told before pieces sights
  pub folded : state ≡ fold_of rule from sights

-- where a state was the fold over some pieces, a later one is the fold over others, from the same state
abbrev pub FoldsOn : Planned → Bool → {R : Type 0} → (R → List ℕ) → Rule → List (Part R) → List (Part R) → List ℕ → List ℕ → Type 0
FoldsOn plan tells told rule front pieces old new = (from : List ℕ) → IsFold plan tells told rule 0 front from old → IsFold plan tells told rule 0 pieces from new
