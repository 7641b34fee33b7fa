-- What commands say of a finished volume that nobody changed.
use Rattle.std.specs.Prelude.{◌≡◌, ℕ, true, List}
use Rattle.aff_model.specs.Causes.{Rose}
use Rattle.aff_command.specs.Finished.{AreOffline}
use Rattle.aff_finished.specs.Laws.{OfEachFinished}
use Rattle.aff_offline.specs.Answered.{ShownFolder}
use Rattle.aff_offline.specs.Outcomes.{IsOfflineOutcome}
use Rattle.aff_offline.specs.Written.{ShownSink}
use Rattle.aff_outcomes.specs.Answers.{IsAnsweredOf}

-- each command over its folder, where the counts of folder and sink do not rise
abbrev pub AnswersAll : Type 0
AnswersAll = OfEachFinished (λ uuid m held h.
    (words : List (List ℕ)) (old new : ShownFolder) (before after : ShownSink) (status : ℕ)
    → AreOffline words → old.held ≡ held → ¬ (Rose old.faults new.faults) → ¬ (Rose before.faults after.faults)
    → IsOfflineOutcome words true old new before after status → IsAnsweredOf uuid m h words before after status)
