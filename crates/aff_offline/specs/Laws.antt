-- Laws of outcomes, over a folder that tells and whose count has not risen.
use Rattle.std.specs.Prelude.{◌≢◌, ℕ, true, List}
use Rattle.aff_model.specs.Causes.{Rose}
use Rattle.aff_command.specs.Finished.{AreOffline, IsOffline}
use Rattle.aff_command.specs.declared.wanted.Offline.TheVariants.{Verify}
use Rattle.aff_info.specs.Found.{Found}
use Rattle.aff_verify.specs.Verdicts.{IsAgreement}
use Rattle.aff_volume.specs.Opened.{IsWholeVolume}
use Rattle.aff_offline.specs.Answered.{ShownFolder}
use Rattle.aff_offline.specs.Outcomes.{IsOfflineOutcome}
use Rattle.aff_offline.specs.Written.{ShownSink}

-- where it has a whole volume, nothing that is asked of it is refused for the folder
abbrev pub IsTaken : Type 0
IsTaken =
    (words : List (List ℕ)) (old new : ShownFolder) (before after : ShownSink) (status : ℕ) (found : Found) → AreOffline words → IsWholeVolume old.held found → ¬ (Rose old.faults new.faults)
    → IsOfflineOutcome words true old new before after status → (status ≢ 2) × (status ≢ 6) × (status ≢ 8)

-- and where that holds all that it records, its verification finds nothing: it says so, or the sink or memory is wanting
abbrev pub IsFoundSound : Type 0
IsFoundSound =
    (words : List (List ℕ)) (old new : ShownFolder) (before after : ShownSink) (status : ℕ) (found : Found) → IsOffline Verify words → IsWholeVolume old.held found → IsAgreement old.held found.info
    → IsOfflineOutcome words true old new before after status → (status ≢ 3) × (status ≢ 9)
