-- What holds of the folder of a run, by how it ended.
use Rattle.std.specs.Prelude.{◌≡◌, ◌⊎◌, ℕ, true, List, IsTrue}
use Rattle.aff_model.specs.Causes.{Rose}
use Rattle.aff_command.specs.CommandLine.{uuid_of}
use Rattle.aff_command.specs.Finished.{AreOffline}
use Rattle.aff_volume.specs.Opened.{IsVolumeOf, Opened}
use Rattle.aff_offline.specs.Answered.{ShownFolder}
use Rattle.aff_offline.specs.Outcomes.{IsOfflineOutcome}
use Rattle.aff_offline.specs.Written.{ShownSink}
use Rattle.aff_top.specs.Outcomes.{Facts, Output, Request, IsOutcome}
use Rattle.aff_outcomes.specs.Answers.{IsAnsweredOf}
use Rattle.aff_outcomes.specs.Runs.{IsIntoEmpty, IsLeftOfRun, IsRefusal, IsVolumeOfRun, IsWholeEnd}

-- what holds of each run that ends
abbrev pub OfEachRun : (F S D R : Type 0) → (Request R → Facts F S D → Facts F S D → ℕ → Type 0) → Type 0
OfEachRun F S D R P = (ask : Request R) (old new : Facts F S D) (before after : Output) (status : ℕ)
    → IsOutcome ask old new before after status → P ask old new status

-- a refusal leaves the folder as it was
abbrev pub LeavesAsItWas : Type 0 → Type 0 → Type 0 → Type 0 → Type 0
LeavesAsItWas F S D R = OfEachRun F S D R (λ ask old new status. IsRefusal status → IsTrue ask.tells → new.held ≡ old.held)

-- an end behind the last append leaves the finished volume
abbrev pub LeavesAll : Type 0 → Type 0 → Type 0 → Type 0 → Type 0
LeavesAll F S D R = OfEachRun F S D R (λ ask old new status. IsWholeEnd old new status → IsTrue ask.tells → IsVolumeOfRun ask old new.held)

-- whatever the end, an empty folder opens afterwards only where every segment of the finished volume is there in full
abbrev pub OpensInFull : Type 0 → Type 0 → Type 0 → Type 0 → Type 0
OpensInFull F S D R = OfEachRun F S D R (λ ask old new status. IsIntoEmpty ask old → (v : Opened) → IsVolumeOf new.held v → IsLeftOfRun ask old new.held)

-- what is answered of what a run left: what it acquired
pub record IsAnsweredOfRun {F S D R : Type 0} (ask : Request R) (old new : Facts F S D)
    (words : List (List ℕ)) (before after : ShownSink) (status : ℕ) : Type 0 where
  pub run : IsLeftOfRun ask old new.held
  pub answered : IsAnsweredOf (uuid_of ask.words) run.volume.image run.volume.hashes words before after status

-- a command over what a run left, where neither folder nor sink fails
abbrev pub OfEachCommand : {F S D : Type 0} → Facts F S D → (List (List ℕ) → ShownSink → ShownSink → ℕ → Type 0) → Type 0
OfEachCommand new P = (words : List (List ℕ)) (first second : ShownFolder) (before after : ShownSink) (status : ℕ)
    → AreOffline words → first.held ≡ new.held → ¬ (Rose first.faults second.faults) → ¬ (Rose before.faults after.faults)
    → IsOfflineOutcome words true first second before after status → P words before after status

-- behind the last append each command is answered so, as the run acquired
abbrev pub AnswersAfterwards : Type 0 → Type 0 → Type 0 → Type 0 → Type 0
AnswersAfterwards F S D R = OfEachRun F S D R (λ ask old new status. IsWholeEnd old new status → IsTrue ask.tells
    → OfEachCommand new (λ words before after status. IsAnsweredOfRun ask old new words before after status))

-- whatever the end, nothing else is passed off as what the run acquired: an empty folder is refused by name, or memory was wanting
abbrev pub PassesNothingOff : Type 0 → Type 0 → Type 0 → Type 0 → Type 0
PassesNothingOff F S D R = OfEachRun F S D R (λ ask old new status. IsIntoEmpty ask old
    → OfEachCommand new (λ words before after status. IsAnsweredOfRun ask old new words before after status ⊎ ((status ≡ 7) ⊎ (status ≡ 8))))
