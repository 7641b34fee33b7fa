-- Bytes of one chunk of a piece.
use Rattle.std.proofs.Common.{◌≡◌, ℕ, zero, suc, ◌+◌, ◌-◌, ◌*◌, ◌/◌, ◌%◌, ◌<◌, ◌≤◌, Bool, true, false, Option, None, Some, IsTrue, List, length, get_or, refl, sym, ap, subst, ◌∙◌, arith, slice_get}
use Rattle.std.specs.Prelude.{Contains}
use Rattle.std.proofs.lemmas.Option.{slice_get_within, slice_get-get_or, get_or_from_slice_get}
use Rattle.aff_model.specs.declared.extent.Extent.{Extent}
use Rattle.aff_model.specs.declared.publication.Place.{Place}
use Rattle.aff_model.specs.declared.publication.Place.TheVariants.{Zero, Chunk, Nothing}
use Rattle.aff_model.specs.Cells.{is_bad_at, sector_in}
use Rattle.aff_model.specs.Content.{Content}
use Rattle.aff_model.specs.History.{Part, publication_of}
use Rattle.aff_image.specs.Sound.{IsPlaceIn, IsSound}
use Rattle.aff_image.proofs.Sectors.{not_in}
use Rattle.aff_analyst.specs.Bytes.{IsFetched, Keeps, KeepsAt, chunk_of, stored_before, within_chunk}
use Rattle.aff_analyst.specs.Reads.{IsInChunk}
use Rattle.aff_analyst.proofs.Contents.{sector_of}

-- the places of a range inside one chunk
pub chunk_along : (e : Extent) (at len k : ℕ) → IsInChunk e at len → k < len → chunk_of e (at + k) ≡ (at - e.at) / 32768
chunk_along e at len k inner low = omega (arith, inner.one, inner.inside.from, low)

pub within_along : (e : Extent) (at len k : ℕ) → IsInChunk e at len → k < len → within_chunk e (at + k) ≡ (at - e.at) % 32768 + k
within_along e at len k inner low = omega (arith, inner.one, inner.inside.from, low)

keeps_by : (tells : Bool) {R : Type 0} (told : R → List ℕ) (e : Extent) (p : Part R) (at len k byte : ℕ) (place : Place) → IsInChunk e at len → k < len → slice_get p.places ((at - e.at) / 32768) ≡ Some place
    → KeepsAt tells told p ((at - e.at) / 32768) ((at - e.at) % 32768 + k) byte place → Keeps tells told e p (at + k) byte
keeps_by tells told e p at len k byte place inner low is w =
    let read : get_or p.places ((at - e.at) / 32768) Nothing ≡ place = get_or_from_slice_get p.places ((at - e.at) / 32768) place Nothing is in
    let one : KeepsAt tells told p ((at - e.at) / 32768) ((at - e.at) % 32768 + k) byte (get_or p.places ((at - e.at) / 32768) Nothing) = subst (λ x. KeepsAt tells told p ((at - e.at) / 32768) ((at - e.at) % 32768 + k) byte x) (sym read) w in
    let two : KeepsAt tells told p ((at - e.at) / 32768) (within_chunk e (at + k)) byte (get_or p.places ((at - e.at) / 32768) Nothing) = subst (λ b. KeepsAt tells told p ((at - e.at) / 32768) b byte (get_or p.places ((at - e.at) / 32768) Nothing)) (sym (within_along e at len k inner low)) one in
    subst (λ j. KeepsAt tells told p j (within_chunk e (at + k)) byte (get_or p.places j Nothing)) (sym (chunk_along e at len k inner low)) two

pub keeps_zero : (tells : Bool) {R : Type 0} (told : R → List ℕ) (e : Extent) (p : Part R) (at len k byte : ℕ) → IsInChunk e at len → k < len → slice_get p.places ((at - e.at) / 32768) ≡ Some Zero → byte ≡ 0 → Keeps tells told e p (at + k) byte
keeps_zero tells told e p at len k byte inner low is z = keeps_by tells told e p at len k byte Zero inner low is z

pub keeps_chunk : (tells : Bool) {R : Type 0} (told : R → List ℕ) (e : Extent) (p : Part R) (at len k byte c : ℕ) (chunk : List ℕ) → IsInChunk e at len → k < len → slice_get p.places ((at - e.at) / 32768) ≡ Some (Chunk c)
    → IsFetched tells told p (stored_before p.places ((at - e.at) / 32768)) chunk → byte ≡ get_or chunk ((at - e.at) % 32768 + k) 0 → Keeps tells told e p (at + k) byte
keeps_chunk tells told e p at len k byte c chunk inner low is fetched read = keeps_by tells told e p at len k byte (Chunk c) inner low is (chunk, fetched, read)

-- the chunk of a place of a sound piece has a place
pub has_chunk : (case : Option Content) (block : ℕ) (e : Extent) (tells : Bool) {R : Type 0} (told : R → List ℕ) (p : Part R) (at len first : ℕ) → IsSound case block e tells told p → IsInChunk e at len → first < len → (at - e.at) / 32768 < length p.places
has_chunk case block e tells told p at len first s inner low = omega (arith, s.reading.count, inner.inside.from, inner.inside.to, low)

-- a byte that was read is in no chunk of which none was
pub some_read : (case : Option Content) (block : ℕ) (e : Extent) (tells : Bool) {R : Type 0} (told : R → List ℕ) (p : Part R) (at len first : ℕ) → IsSound case block e tells told p → IsInChunk e at len → first < len
    → e.at % 512 ≡ 0 → e.len % 512 ≡ 0 → is_bad_at e (publication_of p) (at + first) ≡ false → ¬ (slice_get p.places ((at - e.at) / 32768) ≡ Some Nothing)
some_read case block e tells told p at len first s inner low whole even good is =
    let j : ℕ = (at - e.at) / 32768 in
    let i : ℕ = at + first - e.at in
    let there : j < length p.places = slice_get_within p.places j Nothing is in
    let placed = s.reading.placed j Zero there in
    let read : get_or p.places j Zero ≡ Nothing = get_or_from_slice_get p.places j Nothing Zero is in
    let none : IsPlaceIn e s.bytes p.bad j Nothing = subst (λ x. IsPlaceIn e s.bytes p.bad j x) read placed in
    let sector : i / 512 ≡ sector_in e (at + first) = sector_of e.at (at + first) whole (omega (arith, inner.inside.from)) in
    let clear : ¬ (Contains p.bad (i / 512)) = subst (λ x. ¬ (Contains p.bad x)) (sym sector) (not_in p.bad (sector_in e (at + first)) good) in
    let chunk : i / 32768 ≡ j = chunk_along e at len first inner low in
    clear (none (i / 512) (record {
      from = omega (arith, chunk);
      to = omega (arith, chunk);
      inside = omega (arith, even, inner.inside.from, inner.inside.to, low);
    }))
