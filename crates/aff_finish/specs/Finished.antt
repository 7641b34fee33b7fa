-- How a run ends.
use Rattle.std.specs.Prelude.{◌≡◌, ℕ, ◌↔◌, ◌⊎◌, Bool, List, [], ◌∷◌, ◌++◌, length, Option, IsSome, IsTrue, Contains}
use Rattle.std.specs.FinMap.{empty, get}
use Rattle.sha2.specs.Sha512.{sha512}
use Rattle.aff_model.specs.Content.{Content}
use Rattle.aff_model.specs.Held.{Held}
use Rattle.aff_model.specs.Legal.{IsComplete}
use Rattle.aff_fields.specs.declared.entry.Entry.{Entry}
use Rattle.aff_spec.specs.Acquired.{segment_names}
use Rattle.aff_spec.specs.Appends.{Append, applied, Reaches}
use Rattle.aff_spec.specs.Bevvies.{bevvy_count, written}
use Rattle.aff_spec.specs.Names.{stream_urn, image_urn}
use Rattle.aff_spec.specs.Runs.{AreGreatestRuns}
use Rattle.aff_image.specs.Asked.{Asked}
use Rattle.aff_image.specs.Image.{Image, IsImageBy, image_bytes, image_spot}
use Rattle.aff_image.specs.Volume.{IsReadable, image_appends}
use Rattle.aff_info.specs.declared.info.Info.{Info}
use Rattle.aff_finish.specs.BlockMap.{block_map_hash}
use Rattle.aff_finish.specs.Container.{container_appends, version_name, description_name, information_name}
use Rattle.aff_finish.specs.Finishing.{digests_of}
use Rattle.aff_finish.specs.Information.{info_of, information}
use Rattle.aff_finish.specs.Named.{IsNamed}
use Rattle.aff_finish.specs.declared.hashes.Hashes.{Hashes}

-- what the volume of an image says of itself
abbrev pub image_info : List ℕ → Image → Hashes → Info
image_info uuid m h = info_of uuid m.plan.size (length m.chunks) h

-- all appends of a volume: those of its image, whose map has these entries, and what it says of itself
abbrev pub all_appends : List ℕ → Image → List Entry → Hashes → List Append
all_appends uuid m entries h = image_appends uuid m entries ++ container_appends uuid (information uuid m.plan.size (length m.chunks) h)

-- the segments of a finished volume of n stored chunks
abbrev pub finished_names : List ℕ → ℕ → List (List ℕ)
finished_names uuid n = segment_names uuid n ++ version_name ∷ description_name ∷ information_name ∷ []

-- The folder is the whole volume of an image: made by its appends, with the greatest runs of its places as entries; with these
-- segments and no other; its image can be read; its metadata name it, and no statement is left over; and the hashes that they
-- state are those of the image's bytes, and of the block map that the folder has.
pub record IsWhole (uuid : List ℕ) (m : Image) (held : Held) (h : Hashes) : Type 0 where
  pub entries : List Entry
  pub runs : AreGreatestRuns (image_spot m) entries
  pub made : held ≡ applied empty (all_appends uuid m entries h)
  pub segments : (name : List ℕ) → IsSome (get held name) ↔ Contains (finished_names uuid (length m.chunks)) name
  pub readable : IsReadable uuid m held
  pub named : IsNamed held (record { info = image_info uuid m h; aside = [] })
  pub linear : h.linear ≡ digests_of (image_bytes m)
  pub block_map : h.block_map ≡ block_map_hash held (stream_urn uuid) (image_urn uuid) (bevvy_count (length m.chunks))

-- A folder that was finished: the image is one of the workers, each extent of the plan stands in its history, and the folder,
-- where it tells, is its whole volume with these hashes. (Else they are the hashes of some bytes.)
pub record IsFinished (case : Option Content) (tells : Bool) (asked : Asked) (m : Image) (held : Held) (h : Hashes) : Type 0 where
  pub plan : m.plan ≡ asked.plan
  pub image : IsImageBy case asked.workers m
  pub complete : IsComplete m.plan.extents m.history
  pub bytes : List ℕ
  pub linear : h.linear ≡ digests_of bytes
  pub digests : List ℕ
  pub block_map : h.block_map ≡ sha512 digests
  pub whole : IsTrue tells → IsWhole asked.uuid m held h

-- some first of the appends that make the whole volume were made, perhaps with a prefix of the next one
pub record IsNearlyWhole (uuid : List ℕ) (m : Image) (held : Held) : Type 0 where
  pub last : Held
  pub hashes : Hashes
  pub whole : IsWhole uuid m last hashes
  pub complete : IsComplete m.plan.extents m.history
  pub reached : Reaches empty (all_appends uuid m whole.entries hashes) held

-- the order of appends of an image had got so far: into its stream, or into what ends the volume
abbrev pub HasReached : List ℕ → Image → Held → Type 0
HasReached uuid m held = Reaches empty (written (stream_urn uuid) m.chunks) held ⊎ IsNearlyWhole uuid m held

-- What another end behind the texts leaves in an empty folder: the order of appends of an image had got so far. Its history
-- may have one publication more than were made: that of an extent whose chunks were stored in part.
pub record IsStopped (case : Option Content) (tells : Bool) (asked : Asked) (m : Image) (held : Held) : Type 0 where
  pub plan : m.plan ≡ asked.plan
  pub image : IsImageBy case asked.workers m
  pub reached : IsTrue tells → HasReached asked.uuid m held
