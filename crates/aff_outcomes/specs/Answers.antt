-- What is answered of a finished volume, by the image that was acquired.
use Rattle.std.specs.Prelude.{◌≡◌, ◌⊎◌, ℕ, List, length, codes}
use Rattle.std.specs.Io.KnownBytes.{Appends}
use Rattle.aff_command.specs.declared.wanted.Offline.{Offline}
use Rattle.aff_command.specs.declared.wanted.Offline.TheVariants.{Read, Info, Verify}
use Rattle.aff_image.specs.Image.{Image}
use Rattle.aff_finish.specs.Finished.{image_info}
use Rattle.aff_finish.specs.declared.hashes.Hashes.{Hashes}
use Rattle.aff_finished.specs.Content.{AreAcquired}
use Rattle.aff_offline.specs.Answered.{IsRange}
use Rattle.aff_offline.specs.InfoText.{info_text}
use Rattle.aff_offline.specs.Outcomes.{Asks}
use Rattle.aff_offline.specs.Written.{ShownSink}

-- the answer to what is asked of the volume of an image: as many bytes as are asked for, as they were acquired; what the run said
-- of it, with no statement beside; `sound`
abbrev pub IsAnswerOf : List ℕ → Image → Hashes → Offline → List ℕ → Type 0
IsAnswerOf uuid m h (Read at len) text = (length text ≡ len) × AreAcquired m at text
IsAnswerOf uuid m h Info text = text ≡ info_text (image_info uuid m h) 0
IsAnswerOf uuid m h Verify text = text ≡ codes "sound\n"

-- a range is asked for that is too long, or ends behind the image
abbrev pub IsBadRange : Image → Offline → Type 0
IsBadRange m (Read at len) = ¬ (IsRange m.plan.size at len)
IsBadRange m Info = ⊥
IsBadRange m Verify = ⊥

-- a command ends with its answer, written whole; or for its range; or for want of memory
abbrev pub IsAnsweredOf : List ℕ → Image → Hashes → List (List ℕ) → ShownSink → ShownSink → ℕ → Type 0
IsAnsweredOf uuid m h words before after status =
    ((status ≡ 0) × ((text : List ℕ) × Asks words (λ asked. IsAnswerOf uuid m h asked text) × Appends before.written after.written text))
    ⊎ (((status ≡ 3) × Asks words (IsBadRange m)) ⊎ (status ≡ 7))
