-- A finished volume that nobody changed opens, says of itself what its run said, is found sound, and reads as what was acquired; so it
-- does without the last line feed of its metadata; and a folder that was cut off otherwise does not open.
use Rattle.std.specs.Prelude.{◌≡◌, ◌≤◌, ◌*◌, ◌⊎◌, ℕ, Bool, true, List, [], ◌∷◌, ◌++◌, Option}
use Rattle.aff_model.specs.declared.limits.TheConstants.{CHUNK, MAX_SIZE}
use Rattle.aff_model.specs.Content.{Content}
use Rattle.aff_model.specs.Held.{Held}
use Rattle.aff_spec.specs.Words.{is_uuid}
use Rattle.aff_image.specs.Asked.{Asked}
use Rattle.aff_image.specs.Image.{Image}
use Rattle.aff_finish.specs.Finished.{image_info}
use Rattle.aff_finish.specs.Information.{information}
use Rattle.aff_finish.specs.declared.hashes.Hashes.{Hashes}
use Rattle.aff_info.specs.Found.{Found}
use Rattle.aff_verify.specs.Verdicts.{IsAgreement, IsVerdict}
use Rattle.aff_verify.specs.declared.finding.Verdict.{Verdict}
use Rattle.aff_verify.specs.declared.finding.Verdict.TheVariants.{Sound}
use Rattle.aff_volume.specs.Image.{IsFirstDamage, named_by}
use Rattle.aff_volume.specs.Opened.{IsStated, IsVolumeOf, IsWholeVolume, Opened}
use Rattle.aff_volume.specs.Reading.{AreBytes}
use Rattle.aff_volume.specs.Refusals.{IsOfCall, IsVolumeRefused}
use Rattle.aff_volume.specs.declared.error.VolumeError.{VolumeError}
use Rattle.aff_finished.specs.Content.{AreAcquired}
use Rattle.aff_finished.specs.Left.{IsCutOffBy, IsLeftBy}

-- what holds of each finished volume, with the last line feed of its metadata or without: of what it is the volume, the image, what the folder holds, and the hashes
abbrev pub OfEachFinished : (List ℕ → Image → Held → Hashes → Type 0) → Type 0
OfEachFinished P = (case : Option Content) (tells : Bool) (asked : Asked) (m : Image) (held : Held) (h : Hashes)
    → IsLeftBy case tells asked m held h → P asked.uuid m held h

-- the metadata of a finished volume, with no statement beside them
abbrev pub found_of : List ℕ → Image → Hashes → Found
found_of uuid m h = record { info = image_info uuid m h; aside = [] }

-- its folder has a whole volume, with these metadata
abbrev pub IsThereWhole : Type 0
IsThereWhole = OfEachFinished (λ uuid m held h. IsWholeVolume held (found_of uuid m h))

-- no named refusal holds of it
abbrev pub IsRefusedForNothing : Type 0
IsRefusedForNothing = OfEachFinished (λ uuid m held h. (e : VolumeError) → IsVolumeRefused held e → IsOfCall e)

-- what holds of each volume that is opened of its folder
abbrev pub OfEachOpened : (Image → Held → Hashes → List ℕ → Opened → Type 0) → Type 0
OfEachOpened P = OfEachFinished (λ uuid m held h. (v : Opened) → IsVolumeOf held v → P m held h uuid v)

-- it says of itself what the run said
abbrev pub SaysTheSame : Type 0
SaysTheSame = OfEachOpened (λ m held h uuid v. (v.info ≡ image_info uuid m h) × (v.aside ≡ 0))

-- everything that it records agrees with what is held, and no other verdict is one on it
abbrev pub IsSoundThroughout : Type 0
IsSoundThroughout = OfEachOpened (λ m held h uuid v. IsAgreement held v.info × ((verdict : Verdict) → IsVerdict held v.info verdict → verdict ≡ Sound))

-- what is read of a range of it is what was acquired there
abbrev pub ReadsAsAcquired : Type 0
ReadsAsAcquired = OfEachOpened (λ m held h uuid v. (at : ℕ) (bytes : List ℕ) → AreBytes held (named_by v.info) at bytes → AreAcquired m at bytes)

-- and no range meets a damaged chunk
abbrev pub IsNowhereDamaged : Type 0
IsNowhereDamaged = OfEachOpened (λ m held h uuid v. (at n chunk : ℕ) (recorded found : List ℕ)
    → ¬ (IsFirstDamage held (named_by v.info) at n chunk recorded found))

-- metadata that are cut off name no volume, but for their last line feed
abbrev pub NamesNothing : Type 0
NamesNothing = (uuid : List ℕ) (size n : ℕ) (h : Hashes) → is_uuid uuid ≡ true → size ≤ MAX_SIZE → CHUNK * n ≤ MAX_SIZE
    → (cut more : List ℕ) → cut ++ more ≡ information uuid size n h → (found : Found) → IsStated cut found → (more ≡ []) ⊎ (more ≡ 10 ∷ [])

-- where what a run left was cut off and opens all the same, it is a finished volume, with every segment in full
abbrev pub OpensInFull : Type 0
OpensInFull = (case : Option Content) (tells : Bool) (asked : Asked) (m : Image) (held : Held) → IsCutOffBy case tells asked m held
    → (v : Opened) → IsVolumeOf held v → (h : Hashes) × IsLeftBy case tells asked m held h
