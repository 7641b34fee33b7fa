-- What holds of every examiner.
use Rattle.std.specs.Prelude.{ℕ, ◌+◌, Bool, List, [], ◌++◌, length, map, Option}
use Rattle.aff_model.specs.Content.{Content}
use Rattle.aff_model.specs.History.{Part, publication_of}
use Rattle.aff_model.specs.Plan.{Planned}
use Rattle.aff_image.specs.Sound.{AreSound}
use Rattle.aff_examine.specs.Folds.{Rule}
use Rattle.aff_examine.specs.Histories.{HasExamined}
use Rattle.aff_examine.specs.Sights.{IsFold}

-- a fold over no piece leaves the state; and one over pieces, and then over those behind them, is one over all
pub record GoOn (plan : Planned) (tells : Bool) {R : Type 0} (told : R → List ℕ) (rule : Rule) : Type 0 where
  pub none : (before : ℕ) (state : List ℕ) → IsFold plan tells told rule before [] state state
  pub on : (before : ℕ) (front rest : List (Part R)) (from middle state : List ℕ) → IsFold plan tells told rule before front from middle → IsFold plan tells told rule (before + length front) rest middle state
      → IsFold plan tells told rule before (front ++ rest) from state

abbrev pub FoldsGoOn : Bool → {R : Type 0} → (R → List ℕ) → Type 0
FoldsGoOn tells told = (plan : Planned) (rule : Rule) → GoOn plan tells told rule

-- a state by sound pieces is one by the pieces' publications
abbrev pub AreByTheHistory : Bool → {R : Type 0} → (R → List ℕ) → Type 0
AreByTheHistory tells {R} told =
    (case : Option Content) (plan : Planned) (pieces : List (Part R)) (rule : Rule) (from state : List ℕ) → AreSound case plan tells told pieces → IsFold plan tells told rule 0 pieces from state
    → HasExamined case tells plan (map publication_of pieces) rule from state
