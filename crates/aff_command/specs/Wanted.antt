-- What main is to make for words.
use Rattle.std.specs.Prelude.{◌≡◌, ℕ, List}
use Rattle.aff_command.specs.CommandLine.{IsAcquire}
use Rattle.aff_command.specs.Finished.{AreOffline}
use Rattle.aff_command.specs.declared.wanted.Outside.{Outside}
use Rattle.aff_command.specs.declared.wanted.Outside.TheVariants.{Acquire, Rehearse, Offline}

-- for an acquisition devices, which are the words from the fourth on, in blocks of its bytes; none for what is asked of a
-- finished volume
abbrev pub IsFor : Outside → List (List ℕ) → Type 0
IsFor (Acquire first_device block) words = (first_device ≡ 3) × IsAcquire block words
IsFor (Rehearse mib workers) words = ⊥
IsFor Offline words = AreOffline words
