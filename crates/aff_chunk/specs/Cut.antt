-- Which chunks of an extent are stored.
use Rattle.std.specs.Prelude.{◌≡◌, ℕ, ◌<◌, ◌↔◌, Bool, true, false, List, length, All, Contains, slice_index_or}
use Rattle.aff_model.specs.declared.extent.Extent.{Extent}
use Rattle.aff_model.specs.Plan.{chunk_count}
use Rattle.aff_model.specs.Legal.{AllRead, NoneRead}
use Rattle.aff_spec.specs.Chunks.{IsZeroPart}
use Rattle.aff_chunk.specs.declared.kind.Cut.{Cut}
use Rattle.aff_chunk.specs.declared.kind.Cut.TheVariants.{Zero, Stored, Nothing}

-- how chunk j of an extent is cut, by the extent's bytes and its unreadable sectors: Nothing exactly where no sector could
-- be read, Zero exactly where each could be and all bytes are 0, else Stored
abbrev pub IsCutOf : Extent → List ℕ → List ℕ → ℕ → Cut → Type 0
IsCutOf e bytes bad j Nothing = NoneRead e bad j
IsCutOf e bytes bad j Zero = AllRead e bad j × IsZeroPart bytes j
IsCutOf e bytes bad j Stored = (¬ (NoneRead e bad j)) × (¬ (AllRead e bad j × IsZeroPart bytes j))

-- one cut for each chunk of any extent that has these bytes
pub record AreCuts (bytes bad : List ℕ) (cuts : List Cut) : Type 0 where
  pub count : length cuts ≡ chunk_count (length bytes)
  pub each : (e : Extent) (j : ℕ) (d : Cut) → e.len ≡ length bytes → j < length cuts → IsCutOf e bytes bad j (slice_index_or cuts j d)

-- one mark for each sector: whether it is unreadable
pub record AreMarks (bad : List ℕ) (sectors : ℕ) (marks : List Bool) : Type 0 where
  pub count : length marks ≡ sectors
  pub marked : (s : ℕ) → s < sectors → (slice_index_or marks s false ≡ true) ↔ Contains bad s

-- how bytes are cut of whose sectors these are the marks
abbrev pub IsCutBy : List ℕ → List Bool → Cut → Type 0
IsCutBy bytes marks Nothing = All (λ m. m ≡ true) marks
IsCutBy bytes marks Zero = All (λ m. m ≡ false) marks × All (λ b. b ≡ 0) bytes
IsCutBy bytes marks Stored = (¬ (All (λ m. m ≡ true) marks)) × (¬ (All (λ m. m ≡ false) marks × All (λ b. b ≡ 0) bytes))
