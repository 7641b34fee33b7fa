-- What holds of every session.
use Rattle.std.specs.Prelude.{ℕ, Bool, List, map, Option}
use Rattle.aff_model.specs.Content.{Content}
use Rattle.aff_model.specs.History.{Part, publication_of}
use Rattle.aff_model.specs.Plan.{Planned}
use Rattle.aff_image.specs.Sound.{AreSound}
use Rattle.aff_script.specs.Answered.{Answered}
use Rattle.aff_script.specs.declared.script.Request.{Request}
use Rattle.aff_session.specs.Answers.{AreAnswered}
use Rattle.aff_session.specs.Shown.{AreAnsweredBy}

-- answers by sound pieces are answers by the pieces' publications
abbrev pub AreByTheHistory : Bool → {R : Type 0} → (R → List ℕ) → Type 0
AreByTheHistory tells {R} told =
    (case : Option Content) (plan : Planned) (pieces : List (Part R)) (requests : List Request) (answers : List Answered) → AreSound case plan tells told pieces → AreAnsweredBy plan tells told pieces requests answers
    → AreAnswered case tells plan (map publication_of pieces) requests answers
