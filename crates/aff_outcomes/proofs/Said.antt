-- What is said of the folder of a run.
use Rattle.std.proofs.Common.{◌≡◌, ◌⊎◌, ℕ, true, List, refl, subst, inl, inr}
use Rattle.aff_model.specs.Causes.{Rose}
use Rattle.aff_model.specs.Held.{Held}
use Rattle.aff_command.specs.Finished.{AreOffline}
use Rattle.aff_command.specs.declared.wanted.Offline.{Offline}
use Rattle.aff_command.specs.declared.wanted.Offline.TheVariants.{Read, Info, Verify}
use Rattle.aff_verify.specs.declared.finding.Finding.{Finding}
use Rattle.aff_volume.specs.Opened.{IsVolumeOf, Opened}
use Rattle.aff_offline.specs.Answered.{IsAnswer, IsDamageOf, IsFindingOf, IsRangeOf, ShownFolder}
use Rattle.aff_offline.specs.Outcomes.{Comes, IsOfflineOutcome, Status, Writes, status_at, done, usage, range, sink, folder, memory, volume, unsound, other}
use Rattle.aff_offline.specs.Written.{ShownSink}
use Rattle.aff_offline.specs.declared.fault.RangeFault.{RangeFault}
use Rattle.aff_top.specs.Outcomes.{Facts, Request}
use Rattle.aff_outcomes.specs.Answers.{IsAnsweredOf}
use Rattle.aff_outcomes.specs.Laws.{AnswersAll}
use Rattle.aff_outcomes.specs.RunLaws.{IsAnsweredOfRun}
use Rattle.aff_outcomes.specs.Runs.{IsLeftOfRun}
use Rattle.aff_outcomes.proofs.Codes.{IsCode, code_is}
use Rattle.aff_outcomes.proofs.RunEnds.{left_by}

-- ---- a command that says something of a volume has opened it

Opens : Held → Type 0
Opens held = (v : Opened) × IsVolumeOf held v

module _ (held : Held) where
  by_answer : (asked : Offline) (text : List ℕ) → IsAnswer true held asked text → Opens held
  unfolding Opens
  by_answer (Read at len) text is = (is.volume, is.opened refl)
  by_answer Info text is = (is.volume, is.opened refl)
  by_answer Verify text is = ((is.1 refl).volume, (is.1 refl).opened)

  by_range : (why : RangeFault) (asked : Offline) → IsRangeOf true held why asked → Opens held
  unfolding Opens
  by_range why (Read at len) is = (is.volume, is.opened refl)
  by_range why Info is = absurd is
  by_range why Verify is = absurd is

  by_damage : (chunk : ℕ) (recorded found : List ℕ) (asked : Offline) → IsDamageOf true held chunk recorded found asked → Opens held
  unfolding Opens
  by_damage chunk recorded found (Read at len) is = (is.volume, is.opened refl)
  by_damage chunk recorded found Info is = absurd is
  by_damage chunk recorded found Verify is = absurd is

  by_finding : (finding : Finding) (asked : Offline) → IsFindingOf true held finding asked → Opens held
  unfolding Opens
  by_finding finding (Read at len) is = absurd is
  by_finding finding Info is = absurd is
  by_finding finding Verify is = ((is refl).volume, (is refl).opened)

module _ (words : List (List ℕ)) (first second : ShownFolder) (before after : ShownSink) (are : AreOffline words)
    (still : ¬ (Rose first.faults second.faults)) (calm : ¬ (Rose before.faults after.faults)) where
  by_status : (status : ℕ) (s : Status) (text : List ℕ) → status_at status ≡ s → Comes s words true first second text → Writes s before after text
      → ((status ≡ 7) ⊎ (status ≡ 8)) ⊎ Opens first.held
  by_status status done text at comes writes = inr (by_answer first.held comes.asked text comes.is)
  by_status status usage text at comes writes = absurd (comes.0 are)
  by_status status range text at comes writes = inr (by_range first.held comes.why comes.refused.asked comes.refused.is)
  by_status status sink text at comes writes = absurd (calm writes.rose)
  by_status status folder text at comes writes = absurd (still comes.1)
  by_status status memory text at comes writes = inl (inl (subst (λ s. IsCode s status) at (code_is status)))
  by_status status volume text at comes writes = inl (inr (subst (λ s. IsCode s status) at (code_is status)))
  by_status status unsound text at (inl line) writes = inr (by_damage first.held line.chunk line.recorded line.found line.damaged.asked line.damaged.is)
  by_status status unsound text at (inr line) writes = inr (by_finding first.held line.finding line.found.asked line.found.is)
  by_status status other text at comes writes = absurd comes

  opened : (status : ℕ) → IsOfflineOutcome words true first second before after status → ((status ≡ 7) ⊎ (status ≡ 8)) ⊎ Opens first.held
  opened status is = by_status status (status_at status) is.text refl is.comes is.writes

  -- ---- over what a run left

  module _ (F S D R : Type 0) (answers : AnswersAll) (ask : Request R) (old new : Facts F S D) (same : first.held ≡ new.held) (status : ℕ) (is : IsOfflineOutcome words true first second before after status) where
    pub answered : IsLeftOfRun ask old new.held → IsAnsweredOfRun ask old new words before after status
    answered run = record {
      run = run;
      answered = subst (λ uuid. IsAnsweredOf uuid run.volume.image run.volume.hashes words before after status) run.volume.uuid
          (answers ask.case ask.tells run.volume.asked run.volume.image new.held run.volume.hashes (left_by F S D R ask old new.held run) words first second before after status are same still calm is);
    }

    pub passed_off : ((v : Opened) → IsVolumeOf new.held v → IsLeftOfRun ask old new.held) → IsAnsweredOfRun ask old new words before after status ⊎ ((status ≡ 7) ⊎ (status ≡ 8))
    unfolding Opens
    passed_off opens = elim (opened status is) [
      | inl neither ↦ inr neither
      | inr found ↦ inl (answered (opens found.0 (subst (λ g. IsVolumeOf g found.0) same found.1)))
    ]
