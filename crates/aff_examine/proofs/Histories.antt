-- A state by sound pieces is one by their publications.
use Rattle.std.proofs.Common.{◌≡◌, ℕ, suc, ◌+◌, Bool, IsTrue, Option, None, Some, List, [], ◌∷◌, map, get_or, subst, arith, slice_get}
use Rattle.std.specs.Prelude.{IfSome, MatchBool, MatchOption}
use Rattle.aff_model.specs.declared.extent.Extent.{Extent}
use Rattle.aff_model.specs.Cells.{is_bad_at}
use Rattle.aff_model.specs.Content.{Content}
use Rattle.aff_model.specs.History.{Part, publication_of}
use Rattle.aff_model.specs.Plan.{Planned}
use Rattle.aff_image.specs.Sound.{AreSound, IsSound}
use Rattle.aff_analyst.specs.Bytes.{Keeps}
use Rattle.aff_examine.specs.Folds.{Rule, Sight}
use Rattle.aff_examine.specs.Histories.{AreShown, HasExamined, IsShown}
use Rattle.aff_examine.specs.Sights.{AreSights, Gives, IsFold, IsSight, shown_bytes}

content_told : (case : Option Content) (block : ℕ) (tells : Bool) {R : Type 0} (told : R → List ℕ) (front : ℕ) (e : Extent) (p : Part R) (s : Sight) → IsSound case block e tells told p → IsSight block tells told front e p s → IsTrue tells → IfSome case (λ c. s.bytes ≡ shown_bytes c e (publication_of p))
content_told None block tells told front e p s sound sight t = tt
content_told (Some c) block tells told front e p s sound sight t = sight.content t c sound

zero_shown : (tells : Bool) {R : Type 0} (told : R → List ℕ) (e : Extent) (p : Part R) (i byte : ℕ) → IsTrue (is_bad_at e (publication_of p) i) → Gives tells told e p i byte → byte ≡ 0
zero_shown tells told e p i byte bad w = subst (λ b. MatchBool b (byte ≡ 0) (Keeps tells told e p i byte)) bad w

is_shown : (case : Option Content) (block : ℕ) (tells : Bool) {R : Type 0} (told : R → List ℕ) (front : ℕ) (e : Extent) (p : Part R) (s : Sight) → IsSound case block e tells told p → IsSight block tells told front e p s → IsShown case tells front e (publication_of p) s
is_shown case block tells told front e p s sound sight = record {
  piece = sight.piece;
  len = sight.len;
  zero = λ k low bad. zero_shown tells told e p (e.at + k) (get_or s.bytes k 0) bad (sight.each k low);
  told = content_told case block tells told front e p s sound sight;
}

shown_at : (case : Option Content) (plan : Planned) (tells : Bool) {R : Type 0} (told : R → List ℕ) (front : ℕ) (o : Option Extent) (p : Part R) (s : Sight) → MatchOption o ⊥ (λ e. IsSound case plan.block e tells told p) → MatchOption o ⊥ (λ e. IsSight plan.block tells told front e p s)
    → MatchOption o ⊥ (λ e. IsShown case tells front e (publication_of p) s)
shown_at case plan tells told front None p s sound sight = sound
shown_at case plan tells told front (Some e) p s sound sight = is_shown case plan.block tells told front e p s sound sight

are_shown : (case : Option Content) (plan : Planned) (tells : Bool) {R : Type 0} (told : R → List ℕ) (before : ℕ) (pieces : List (Part R)) (sights : List Sight) → AreSound case plan tells told pieces → AreSights plan tells told before pieces sights → AreShown case tells plan before (map publication_of pieces) sights
are_shown case plan tells told before [] [] sound are = tt
are_shown case plan tells told before [] (s ∷ sights) sound are = absurd are
are_shown case plan tells told before (p ∷ pieces) [] sound are = absurd are
are_shown case plan tells told before (p ∷ pieces) (s ∷ sights) sound are = (
  shown_at case plan tells told (suc before) (slice_get plan.extents p.extent) p s (sound 0 p (omega arith)) are.0,
  are_shown case plan tells told (suc before) pieces sights (λ k d low. sound (suc k) d (omega (arith, low))) are.1,
)

pub has_examined : (case : Option Content) (plan : Planned) (tells : Bool) {R : Type 0} (told : R → List ℕ) (pieces : List (Part R)) (rule : Rule) (from state : List ℕ) → AreSound case plan tells told pieces → IsFold plan tells told rule 0 pieces from state
    → HasExamined case tells plan (map publication_of pieces) rule from state
has_examined case plan tells told pieces rule from state sound fold = record {
  sights = fold.sights;
  are = are_shown case plan tells told 0 pieces fold.sights sound fold.are;
  folded = fold.folded;
}
