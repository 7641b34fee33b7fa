-- What is answered of a finished volume.
use Rattle.std.specs.Prelude.{◌≡◌, ⊤, ℕ, ◌+◌, ◌<◌, ◌≤◌, Bool, List, IsTrue, length, codes, Result, Ok, Err, Vec}
use Rattle.aff_model.specs.Causes.{Rose}
use Rattle.aff_model.specs.Held.{Held}
use Rattle.aff_model.specs.declared.limits.TheConstants.{MAX_READ}
use Rattle.aff_outside.specs.declared.folder.Folder.{Ghosts as FolderGhosts}
use Rattle.aff_command.specs.declared.wanted.Offline.{Offline}
use Rattle.aff_command.specs.declared.wanted.Offline.TheVariants.{Read, Info, Verify}
use Rattle.aff_verify.specs.Verdicts.{IsAgreement, IsFirstFinding}
use Rattle.aff_verify.specs.declared.finding.Finding.{Finding}
use Rattle.aff_volume.specs.Image.{IsFirstDamage, named_by}
use Rattle.aff_volume.specs.Opened.{IsVolumeOf, Opened}
use Rattle.aff_volume.specs.Reading.{AreBytes}
use Rattle.aff_volume.specs.Refusals.{IsOfCall, IsVolumeRefused}
use Rattle.aff_volume.specs.declared.error.VolumeError.{VolumeError}
use Rattle.aff_offline.specs.InfoText.{info_text}
use Rattle.aff_offline.specs.declared.fault.Fault.{Fault}
use Rattle.aff_offline.specs.declared.fault.Fault.TheVariants.{Usage, Volume, Range, Damaged, Unsound, Folder, Memory}
use Rattle.aff_offline.specs.declared.fault.RangeFault.{RangeFault}
use Rattle.aff_offline.specs.declared.fault.RangeFault.TheVariants.{TooLong, PastEnd}

-- what a folder shows at one time
pub record ShownFolder : Type 0 where
  pub held : Held
  pub faults : ℕ

abbrev pub shown_folder : {F R P : Type 0} → FolderGhosts F R P → F → ShownFolder
shown_folder f folder = record { held = f.held folder; faults = f.folder_faults folder }

-- the volume that a folder has, where the folder tells
abbrev pub IsOpened : Bool → Held → Opened → Type 0
IsOpened tells held v = IsTrue tells → IsVolumeOf held v

-- a range may be read of an image of so many bytes: it is not too long, and ends inside
pub record IsRange (size at len : ℕ) : Type 0 where
  pub short : len ≤ MAX_READ
  pub inside : at + len ≤ size

-- why a range may not: the length goes before the end
abbrev pub IsRangeFault : ℕ → ℕ → ℕ → RangeFault → Type 0
IsRangeFault size at len TooLong = MAX_READ < len
IsRangeFault size at len PastEnd = (len ≤ MAX_READ) × (size < at + len)

-- the bytes are those of the image in the range, none of them of a damaged chunk
pub record IsReadOf (tells : Bool) (held : Held) (at len : ℕ) (bytes : List ℕ) : Type 0 where
  pub volume : Opened
  pub opened : IsOpened tells held volume
  pub range : IsRange volume.info.image_size at len
  pub count : length bytes ≡ len
  pub are : IsTrue tells → AreBytes held (named_by volume.info) at bytes

-- the text is what the volume says of itself
pub record IsInfoOf (tells : Bool) (held : Held) (text : List ℕ) : Type 0 where
  pub volume : Opened
  pub opened : IsOpened tells held volume
  pub says : text ≡ info_text volume.info volume.aside

-- the volume holds all that it records
pub record IsSoundVolume (held : Held) : Type 0 where
  pub volume : Opened
  pub opened : IsVolumeOf held volume
  pub agrees : IsAgreement held volume.info

-- the answer to what is asked of the volume in a folder
abbrev pub IsAnswer : Bool → Held → Offline → List ℕ → Type 0
IsAnswer tells held (Read at len) text = IsReadOf tells held at len text
IsAnswer tells held Info text = IsInfoOf tells held text
IsAnswer tells held Verify text = (text ≡ codes "sound\n") × (IsTrue tells → IsSoundVolume held)

-- a folder is refused as a volume so; an answer that says nothing of the folder is no refusal
pub record IsRefusedAs (tells : Bool) (held : Held) (e : VolumeError) : Type 0 where
  pub named : ¬ (IsOfCall e)
  pub refused : IsTrue tells → IsVolumeRefused held e

-- a range is refused so
pub record IsRangeRefused (tells : Bool) (held : Held) (at len : ℕ) (why : RangeFault) : Type 0 where
  pub volume : Opened
  pub opened : IsOpened tells held volume
  pub why_is : IsRangeFault volume.info.image_size at len why

-- a range may be read, and this is the first damaged chunk that it meets
pub record IsDamagedAt (tells : Bool) (held : Held) (at len chunk : ℕ) (recorded found : List ℕ) : Type 0 where
  pub volume : Opened
  pub opened : IsOpened tells held volume
  pub range : IsRange volume.info.image_size at len
  pub first : IsTrue tells → IsFirstDamage held (named_by volume.info) at len chunk recorded found

-- this is the first recorded digest that is not that of what is held
pub record IsUnsound (held : Held) (finding : Finding) : Type 0 where
  pub volume : Opened
  pub opened : IsVolumeOf held volume
  pub first : IsFirstFinding held volume.info finding

-- a refused range and a damaged chunk are faults of a reading, and a finding is one of a verification
abbrev pub IsRangeOf : Bool → Held → RangeFault → Offline → Type 0
IsRangeOf tells held why (Read at len) = IsRangeRefused tells held at len why
IsRangeOf tells held why Info = ⊥
IsRangeOf tells held why Verify = ⊥

abbrev pub IsDamageOf : Bool → Held → ℕ → List ℕ → List ℕ → Offline → Type 0
IsDamageOf tells held chunk recorded found (Read at len) = IsDamagedAt tells held at len chunk recorded found
IsDamageOf tells held chunk recorded found Info = ⊥
IsDamageOf tells held chunk recorded found Verify = ⊥

abbrev pub IsFindingOf : Bool → Held → Finding → Offline → Type 0
IsFindingOf tells held finding (Read at len) = ⊥
IsFindingOf tells held finding Info = ⊥
IsFindingOf tells held finding Verify = IsTrue tells → IsUnsound held finding

-- why what is asked is not answered
abbrev pub IsFaultOf : Bool → Offline → ShownFolder → ShownFolder → Fault → Type 0
IsFaultOf tells asked old new Usage = ⊥
IsFaultOf tells asked old new (Volume e) = IsRefusedAs tells old.held e
IsFaultOf tells asked old new (Range why) = IsRangeOf tells old.held why asked
IsFaultOf tells asked old new (Damaged chunk recorded found) = IsDamageOf tells old.held chunk recorded found asked
IsFaultOf tells asked old new (Unsound finding) = IsFindingOf tells old.held finding asked
IsFaultOf tells asked old new Folder = Rose old.faults new.faults
IsFaultOf tells asked old new Memory = ⊤

-- what is asked is answered, or this is why it is not
abbrev pub IsAnswered : {A : Type 0} → Bool → Offline → ShownFolder → ShownFolder → Result (Vec ℕ A) Fault → Type 0
IsAnswered tells asked old new (Ok text) = IsAnswer tells old.held asked text.items
IsAnswered tells asked old new (Err fault) = IsFaultOf tells asked old new fault

-- what a folder holds stays, and its count does not fall
pub record IsKept (tells : Bool) (old new : ShownFolder) : Type 0 where
  pub same : IsTrue tells → new.held ≡ old.held
  pub later : old.faults ≤ new.faults
