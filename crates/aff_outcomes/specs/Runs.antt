-- What the end of a run leaves in its folder, where that tells what it holds and had no segment.
use Rattle.std.specs.Prelude.{◌≡◌, ◌⊎◌, ℕ, [], ◌∷◌, length, Contains, IsTrue}
use Rattle.std.specs.FinMap.{empty}
use Rattle.aff_model.specs.Causes.{Rose}
use Rattle.aff_model.specs.Held.{Held}
use Rattle.aff_image.specs.Asked.{Asked}
use Rattle.aff_image.specs.Image.{Image}
use Rattle.aff_finish.specs.Finished.{IsFinished}
use Rattle.aff_finish.specs.declared.hashes.Hashes.{Hashes}
use Rattle.aff_finished.specs.Left.{IsAsked, IsInFull}
use Rattle.aff_command.specs.CommandLine.{AreAcquire, uuid_of}
use Rattle.aff_top.specs.Outcomes.{Facts, Request, Script, IsPlanned}

-- the finished volume of an image of the plan that the run's text has, made by as many workers as there are devices, beside as many
-- examiners as were handed in; all of the plan is published
pub record IsVolumeOfRun {F S D R : Type 0} (ask : Request R) (old : Facts F S D) (held : Held) : Type 0 where
  pub asked : Asked
  pub uuid : asked.uuid ≡ uuid_of ask.words
  pub workers : asked.workers ≡ length old.devices
  pub examiners : asked.examiners ≡ length old.examiners
  pub script : Script
  pub planned : IsPlanned old.devices old.left asked.plan script
  pub accepted : IsAsked ask.tells asked
  pub image : Image
  pub hashes : Hashes
  pub finished : IsFinished ask.case ask.tells asked image held hashes

-- every segment of that volume is there in full, but perhaps for the last line feed of its metadata
pub record IsLeftOfRun {F S D R : Type 0} (ask : Request R) (old : Facts F S D) (held : Held) : Type 0 where
  pub last : Held
  pub volume : IsVolumeOfRun ask old last
  pub full : IsInFull last held

-- the statuses at which nothing is written into the folder: the words, the text, the source, an occupied folder, the devices
abbrev pub IsRefusal : ℕ → Type 0
IsRefusal status = Contains (2 ∷ 3 ∷ 4 ∷ 8 ∷ 10 ∷ []) status

-- the ends behind the last append: all done, a sink that failed, a damaged chunk, a peek that failed in place of the folder
abbrev pub IsWholeEnd : {F S D : Type 0} → Facts F S D → Facts F S D → ℕ → Type 0
IsWholeEnd old new status = Contains (0 ∷ 5 ∷ 9 ∷ []) status ⊎ ((status ≡ 6) × ¬ (Rose old.folder_faults new.folder_faults))

-- an acquisition is asked, into a folder that tells what it holds and has no segment
pub record IsIntoEmpty {F S D R : Type 0} (ask : Request R) (old : Facts F S D) : Type 0 where
  pub words : AreAcquire ask.words
  pub told : IsTrue ask.tells
  pub free : old.held ≡ empty
