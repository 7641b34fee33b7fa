-- How a command over a finished volume may end.
use Rattle.std.specs.Prelude.{◌≡◌, ◌⊎◌, ℕ, Bool, List, codes, Result, Ok, Err, Vec, if◌then◌else◌, ◌==◌}
use Rattle.std.specs.Io.KnownBytes.{Appends, Keeps}
use Rattle.aff_model.specs.Causes.{Rose}
use Rattle.aff_command.specs.Finished.{AreOffline, IsOffline}
use Rattle.aff_command.specs.declared.wanted.Offline.{Offline}
use Rattle.aff_verify.specs.declared.finding.Finding.{Finding}
use Rattle.aff_volume.specs.declared.error.VolumeError.{VolumeError}
use Rattle.aff_offline.specs.Answered.{IsAnswer, IsDamageOf, IsFindingOf, IsKept, IsRangeOf, IsRefusedAs, ShownFolder}
use Rattle.aff_offline.specs.Faults.{code_of, line_of, range_line}
use Rattle.aff_offline.specs.Findings.{finding_line}
use Rattle.aff_offline.specs.Refusals.{volume_line}
use Rattle.aff_offline.specs.Written.{IsWrittenInPart, ShownSink}
use Rattle.aff_offline.specs.declared.fault.Fault.{Fault}
use Rattle.aff_offline.specs.declared.fault.RangeFault.{RangeFault}
use Rattle.aff_report.specs.Damage.{damaged_line}

-- what is asked, and that it has this property
pub record Asks (words : List (List ℕ)) (P : Offline → Type 0) : Type 0 where
  pub asked : Offline
  pub by_words : IsOffline asked words
  pub is : P asked

-- the range that is asked for is refused, by this line
pub record IsRangeLine (words : List (List ℕ)) (tells : Bool) (old : ShownFolder) (line : List ℕ) : Type 0 where
  pub why : RangeFault
  pub refused : Asks words (IsRangeOf tells old.held why)
  pub says : line ≡ range_line why

-- the folder is refused as a volume, by this line
pub record IsVolumeLine (words : List (List ℕ)) (tells : Bool) (old : ShownFolder) (line : List ℕ) : Type 0 where
  pub why : VolumeError
  pub refused : Asks words (λ asked. IsRefusedAs tells old.held why)
  pub says : line ≡ volume_line why

-- the range that is asked for meets a damaged chunk, by this line
pub record IsDamageLine (words : List (List ℕ)) (tells : Bool) (old : ShownFolder) (line : List ℕ) : Type 0 where
  pub chunk : ℕ
  pub recorded : List ℕ
  pub found : List ℕ
  pub damaged : Asks words (IsDamageOf tells old.held chunk recorded found)
  pub says : line ≡ damaged_line chunk recorded found

-- the volume is not what it records, by this line
pub record IsFindingLine (words : List (List ℕ)) (tells : Bool) (old : ShownFolder) (line : List ℕ) : Type 0 where
  pub finding : Finding
  pub found : Asks words (IsFindingOf tells old.held finding)
  pub says : line ≡ finding_line finding

-- the statuses by their numbers
pub data Status : Type 0 where
  done : Status
  usage : Status
  range : Status
  sink : Status
  folder : Status
  memory : Status
  volume : Status
  unsound : Status
  other : Status

abbrev pub status_at : ℕ → Status
status_at n =
    if n == 0 then done
    else (if n == 2 then usage
    else (if n == 3 then range
    else (if n == 5 then sink
    else (if n == 6 then folder
    else (if n == 7 then memory
    else (if n == 8 then volume
    else (if n == 9 then unsound else other)))))))

-- why each status comes, with this text: the answer at `done` and `sink`, else a line
abbrev pub Comes : Status → List (List ℕ) → Bool → ShownFolder → ShownFolder → List ℕ → Type 0
Comes done words tells old new text = Asks words (λ asked. IsAnswer tells old.held asked text)
Comes usage words tells old new text = (¬ (AreOffline words)) × (new ≡ old) × (text ≡ codes "error usage\n")
Comes range words tells old new text = IsRangeLine words tells old text
Comes sink words tells old new text = Asks words (λ asked. IsAnswer tells old.held asked text)
Comes folder words tells old new text = AreOffline words × Rose old.faults new.faults × (text ≡ codes "error folder\n")
Comes memory words tells old new text = text ≡ codes "error memory\n"
Comes volume words tells old new text = IsVolumeLine words tells old text
Comes unsound words tells old new text = IsDamageLine words tells old text ⊎ IsFindingLine words tells old text
Comes other words tells old new text = ⊥

-- what the sink has at each status: the text whole, a part of it, or at `memory` perhaps nothing
abbrev pub Writes : Status → ShownSink → ShownSink → List ℕ → Type 0
Writes done old new text = Appends old.written new.written text
Writes sink old new text = IsWrittenInPart old new text
Writes memory old new text = Appends old.written new.written text ⊎ (IsWrittenInPart old new text ⊎ Keeps old.written new.written)
Writes _ old new text = Appends old.written new.written text ⊎ IsWrittenInPart old new text

-- how a command ends: by the words, over a folder that tells or not, as folder and sink show before and after
pub record IsOfflineOutcome (words : List (List ℕ)) (tells : Bool) (old new : ShownFolder) (before after : ShownSink) (status : ℕ) : Type 0 where
  pub text : List ℕ
  pub comes : Comes (status_at status) words tells old new text
  pub writes : Writes (status_at status) before after text
  pub kept : IsKept tells old new

-- the answer of a command, or its fault, before anything is written
abbrev pub IsResult : {A : Type 0} → List (List ℕ) → Bool → ShownFolder → ShownFolder → Result (Vec ℕ A) Fault → Type 0
IsResult words tells old new (Ok text) = Comes done words tells old new text.items
IsResult words tells old new (Err fault) = Comes (status_at (code_of fault)) words tells old new (line_of fault)
