-- What is known of an extent that was read.
use Rattle.std.specs.Prelude.{◌≡◌, ℕ, ◌+◌, ◌/◌, ◌<◌, Bool, true, false, List, [], ◌∷◌, length, slice_index, Option, IfSome, Contains, if◌then◌else◌}
use Rattle.aff_model.specs.declared.limits.TheConstants.{SECTOR}
use Rattle.aff_model.specs.declared.extent.Extent.{Extent}
use Rattle.aff_model.specs.Content.{Content}
use Rattle.aff_model.specs.Legal.{Fits}
use Rattle.aff_chunk.specs.Cut.{AreCuts}
use Rattle.aff_chunk.specs.declared.kind.Cut.{Cut}
use Rattle.aff_chunk.specs.declared.kind.Cut.TheVariants.{Zero, Stored, Nothing}
use Rattle.aff_hash.specs.declared.kind.ChunkSums.{ChunkSums}
use Rattle.aff_hash.specs.Chosen.{chosen_sums}

-- a draft as lists
pub record Drafted : Type 0 where
  pub unreadable : List ℕ
  pub cuts : List Cut
  pub stored : List ℕ
  pub sums : List ChunkSums

-- a chunk that is cut so is to be stored
abbrev pub stores : Cut → Bool
stores Zero = false
stores Stored = true
stores Nothing = false

-- the numbers of the chunks that are to be stored, from chunk j on
abbrev pub stored_from : ℕ → List Cut → List ℕ
stored_from j [] = []
stored_from j (cut ∷ cuts) = if stores cut then j ∷ stored_from (j + 1) cuts else stored_from (j + 1) cuts

-- an extent was read around the sectors that cannot be: their list fits it, their bytes are 0, and all other bytes are those
-- of the content, where that is told
pub record IsReadAround (case : Option Content) (block : ℕ) (e : Extent) (bytes unreadable : List ℕ) : Type 0 where
  pub len : length bytes ≡ e.len
  pub fits : Fits case block e unreadable
  pub known : IfSome case (λ c. (k : ℕ) → k < length bytes → ¬ (Contains unreadable (k / SECTOR)) → slice_index bytes k ≡ c.byte (e.at + k))
  pub zero : (k : ℕ) → k < length bytes → Contains unreadable (k / SECTOR) → slice_index bytes k ≡ 0

-- so was the extent of a draft, which has the cut of each chunk, and the numbers and the digests of those that are to be
-- stored
pub record IsDraft (case : Option Content) (block : ℕ) (e : Extent) (bytes : List ℕ) (d : Drafted) : Type 0 where
  pub read : IsReadAround case block e bytes d.unreadable
  pub cut : AreCuts bytes d.unreadable d.cuts
  pub chosen : d.stored ≡ stored_from 0 d.cuts
  pub digests : d.sums ≡ chosen_sums bytes d.stored
