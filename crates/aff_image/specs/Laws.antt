-- What holds of every run, for any number of workers and any order of publications.
use Rattle.std.specs.Prelude.{◌≡◌, ℕ, ◌≤◌, true, List, [], ◌∷◌, ◌++◌, length, map, Option, Some, IfSome, All, Contains}
use Rattle.std.specs.List.{range_with_len}
use Rattle.std.specs.FinMap.{empty}
use Rattle.aff_model.specs.declared.limits.TheConstants.{MAX_CHUNKS}
use Rattle.aff_model.specs.Cells.{content_of}
use Rattle.aff_model.specs.Content.{Content}
use Rattle.aff_model.specs.Held.{Held}
use Rattle.aff_model.specs.Legal.{IsClaimant, IsComplete, numbers_of}
use Rattle.aff_model.specs.Plan.{Planned, IsPlan}
use Rattle.aff_fields.specs.declared.entry.Entry.{Entry}
use Rattle.aff_fields.specs.Entry.{FitsEntry}
use Rattle.aff_spec.specs.Appends.{applied}
use Rattle.aff_spec.specs.Bevvies.{more_appends, written}
use Rattle.aff_spec.specs.Runs.{AreGreatestRuns}
use Rattle.aff_spec.specs.Volumes.{volume_of, volume_bytes}
use Rattle.aff_spec.specs.Words.{is_uuid}
use Rattle.aff_image.specs.Image.{Image, IsImageBy, acquired_content, image_at, image_bytes, image_cell, image_spot}
use Rattle.aff_image.specs.Volume.{IsVolume, image_appends}
use Rattle.aff_image.specs.Witnesses.{Witnessed, AreWitnessed, IsWitnessed, history_of, kept_chunks, kept_of}

-- readings are of one content: the told one, where one is told
abbrev pub AreOfOneContent : Type 0
AreOfOneContent =
    (case : Option Content) (plan : Planned) (workers : ℕ) (readings : List Witnessed) → IsPlan plan.size plan.block plan.extents → AreWitnessed case plan workers readings
    → (c : Content) × IfSome case (λ d. c ≡ d) × AreWitnessed (Some c) plan workers readings

-- they make an image: their publications are its history, and what they keep are its chunks
abbrev pub MakeAnImage : Type 0
MakeAnImage =
    (case : Option Content) (plan : Planned) (workers : ℕ) (readings : List Witnessed) → IsPlan plan.size plan.block plan.extents → AreWitnessed case plan workers readings
    → (m : Image) × (m.plan ≡ plan) × (m.history ≡ history_of readings) × (m.chunks ≡ kept_chunks readings) × IsImageBy case workers m

-- what holds of every image that workers made of a plan
abbrev pub OfEachImage : (Option Content → ℕ → Image → Type 0) → Type 0
OfEachImage P = (case : Option Content) (workers : ℕ) (m : Image) → IsPlan m.plan.size m.plan.block m.plan.extents → IsImageBy case workers m → P case workers m

-- after its first publications it is one too
abbrev pub HasImagesBefore : Type 0
HasImagesBefore = OfEachImage (λ case workers m. (n : ℕ) → IsImageBy case workers (image_at m n))

-- it has no more chunks than a plan can have
abbrev pub HasFewChunks : Type 0
HasFewChunks = OfEachImage (λ case workers m. length m.chunks ≤ MAX_CHUNKS)

-- where it is complete, its cells are what was acquired
abbrev pub IsAcquiredWhole : Type 0
IsAcquiredWhole = OfEachImage (λ case workers m. IsComplete m.plan.extents m.history → (i : ℕ) → image_cell m i ≡ acquired_content m i)

-- and what its appends make is its volume
abbrev pub MakesItsVolume : Type 0
MakesItsVolume = OfEachImage (λ case workers m.
    IsComplete m.plan.extents m.history → (uuid : List ℕ) (entries : List Entry) (held : Held) → is_uuid uuid ≡ true → AreGreatestRuns (image_spot m) entries → All FitsEntry entries
    → held ≡ applied empty (image_appends uuid m entries) → IsVolume uuid m held)

-- the bytes that a volume reads as, one after another, are those of its image
abbrev pub ReadsAsItsImage : Type 0
ReadsAsItsImage = (uuid : List ℕ) (m : Image) (held : Held) → IsVolume uuid m held → volume_bytes held (volume_of uuid) m.plan.size ≡ image_bytes m

-- a complete image of a content whose weak sectors are all bad has its bad sectors unreadable, and no others
abbrev pub IsOfBadSectors : Type 0
IsOfBadSectors = OfEachImage (λ case workers m.
    ((s : ℕ) → m.content.weak s ≡ m.content.bad s) → IsComplete m.plan.extents m.history → (i : ℕ) → acquired_content m i ≡ content_of m.content m.plan.extents m.content.bad i)

-- two such images of one content and plan have the same bytes, however many workers read what and when
abbrev pub HaveSameBytes : Type 0
HaveSameBytes =
    (case other : Option Content) (workers others : ℕ) (m n : Image) → IsPlan m.plan.size m.plan.block m.plan.extents → IsImageBy case workers m → IsImageBy other others n
    → m.content ≡ n.content → m.plan ≡ n.plan → ((s : ℕ) → m.content.weak s ≡ m.content.bad s) → IsComplete m.plan.extents m.history → IsComplete n.plan.extents n.history
    → image_bytes m ≡ image_bytes n

-- readings with one more are readings too: of an extent that is new, whose chunks go on from the count of those before
abbrev pub TakeOneMore : Type 0
TakeOneMore =
    (case : Option Content) (plan : Planned) (workers : ℕ) (readings : List Witnessed) (r : Witnessed) → AreWitnessed case plan workers readings → IsWitnessed case plan r
    → IsClaimant workers r.published → ¬ (Contains (map (λ p. p.extent) (history_of readings)) r.published.extent)
    → numbers_of r.published.places ≡ range_with_len (length (kept_chunks readings)) (length (numbers_of r.published.places)) → AreWitnessed case plan workers (readings ++ r ∷ [])

-- and its appends stand behind theirs
abbrev pub AppendBehind : Type 0
AppendBehind =
    (stream : List ℕ) (readings : List Witnessed) (r : Witnessed)
    → written stream (kept_chunks (readings ++ r ∷ [])) ≡ written stream (kept_chunks readings) ++ more_appends stream (kept_chunks readings) (kept_of r)
