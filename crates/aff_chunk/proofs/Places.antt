-- The places that a legal publication may give to chunks that were cut so.
use Rattle.std.proofs.Common.{◌≡◌, ℕ, ◌+◌, ◌*◌, ◌/◌, ◌%◌, ◌<◌, ◌≤◌, List, length, sym, ◌∙◌, arith}
use Rattle.std.specs.Prelude.{Option, Some, None, IfSome, slice_index}
use Rattle.std.specs.List.{Contains}
use Rattle.aff_model.specs.declared.extent.Extent.{Extent}
use Rattle.aff_model.specs.declared.publication.Place.TheVariants.{Chunk}
use Rattle.aff_model.specs.declared.publication.Place.TheVariants.{Zero as ZeroPlace, Nothing as NothingPlace}
use Rattle.aff_model.specs.Content.{Content}
use Rattle.aff_model.specs.Legal.{AllRead, IsPlaceOf, IsZeroChunk}
use Rattle.aff_chunk.specs.declared.kind.Cut.TheVariants.{Zero, Stored, Nothing}
use Rattle.aff_spec.specs.Chunks.{IsZeroPart}
use Rattle.aff_chunk.specs.Cut.{IsCutOf}

-- the bytes of an extent's sectors are the content's, but for unreadable ones
abbrev pub IsReadBeside : Extent → List ℕ → List ℕ → Content → Type 0
IsReadBeside e bytes bad c = (k : ℕ) → k < length bytes → ¬ (Contains bad (k / 512)) → slice_index bytes k ≡ c.byte (e.at + k)

-- in a chunk of which each sector was read, all bytes are the content's
content_in : (e : Extent) (bytes bad : List ℕ) (c : Content) (j k : ℕ) → e.len ≡ length bytes → e.len % 512 ≡ 0 → IsReadBeside e bytes bad c → AllRead e bad j → 32768 * j ≤ k → k < 32768 * j + 32768 → k < e.len → slice_index bytes k ≡ c.byte (e.at + k)
content_in e bytes bad c j k long whole read all from to inside =
    read k (omega arith) (all (k / 512) (record { from = omega arith; to = omega arith; inside = omega arith }))

zero_chunk : (e : Extent) (bytes bad : List ℕ) (c : Content) (j : ℕ) → e.len ≡ length bytes → e.len % 512 ≡ 0 → IsReadBeside e bytes bad c → AllRead e bad j → IsZeroPart bytes j → IsZeroChunk e j c
zero_chunk e bytes bad c j long whole read all zeros k from to inside =
    sym (content_in e bytes bad c j k long whole read all from to inside) ∙ zeros k from to (omega arith)

zero_part : (e : Extent) (bytes bad : List ℕ) (c : Content) (j : ℕ) → e.len ≡ length bytes → e.len % 512 ≡ 0 → IsReadBeside e bytes bad c → AllRead e bad j → IsZeroChunk e j c → IsZeroPart bytes j
zero_part e bytes bad c j long whole read all zeros k from to inside =
    content_in e bytes bad c j k long whole read all from to (omega arith) ∙ zeros k from to (omega arith)

-- a chunk that was cut as Zero, Stored or Nothing has such a place
pub IsPlaceOf-zero : (case : Option Content) (e : Extent) (bytes bad : List ℕ) (j : ℕ) → e.len ≡ length bytes → e.len % 512 ≡ 0 → IfSome case (IsReadBeside e bytes bad) → IsCutOf e bytes bad j Zero → IsPlaceOf case e bad j ZeroPlace
IsPlaceOf-zero None e bytes bad j long whole read is = (is.0, tt)
IsPlaceOf-zero (Some c) e bytes bad j long whole read is = (is.0, zero_chunk e bytes bad c j long whole read is.0 is.1)

pub IsPlaceOf-stored : (case : Option Content) (e : Extent) (bytes bad : List ℕ) (j n : ℕ) → e.len ≡ length bytes → e.len % 512 ≡ 0 → IfSome case (IsReadBeside e bytes bad) → IsCutOf e bytes bad j Stored → IsPlaceOf case e bad j (Chunk n)
IsPlaceOf-stored None e bytes bad j n long whole read is = (is.0, tt)
IsPlaceOf-stored (Some c) e bytes bad j n long whole read is = (is.0, λ both. is.1 (both.0, zero_part e bytes bad c j long whole read both.0 both.1))

pub IsPlaceOf-nothing : (case : Option Content) (e : Extent) (bytes bad : List ℕ) (j : ℕ) → IsCutOf e bytes bad j Nothing → IsPlaceOf case e bad j NothingPlace
IsPlaceOf-nothing case e bytes bad j is = is
