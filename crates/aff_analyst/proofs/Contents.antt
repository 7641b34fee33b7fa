-- What sound pieces keep is the content's bytes.
use Rattle.std.proofs.Common.{◌≡◌, ℕ, zero, suc, ◌+◌, ◌-◌, ◌*◌, ◌/◌, ◌%◌, ◌<◌, ◌≤◌, Bool, true, false, cond, Option, None, Some, IfSome, IsTrue, List, [], ◌∷◌, length, map, get_or, refl, sym, ap, subst, ◌∙◌, arith, slice_get}
use Rattle.std.specs.Prelude.{MatchBool, MatchOption, All, Contains}
use Rattle.std.specs.List.{list_any}
use Rattle.std.proofs.lemmas.Bool.Decides.{nat_tests}
use Rattle.std.proofs.lemmas.Option.{same_Some, slice_get_within, slice_get-get_or, get_or_from_slice_get}
use Rattle.aff_model.specs.declared.extent.Extent.{Extent}
use Rattle.aff_model.specs.declared.cell.Cell.{Cell}
use Rattle.aff_model.specs.declared.cell.Cell.TheVariants.{Byte, Unreadable}
use Rattle.aff_model.specs.declared.publication.Place.{Place}
use Rattle.aff_model.specs.declared.publication.Place.TheVariants.{Zero, Chunk, Nothing}
use Rattle.aff_model.specs.Cells.{cell_by, cell_of, is_bad_at, sector_in}
use Rattle.aff_model.specs.Content.{Content}
use Rattle.aff_model.specs.History.{Part, publication_of}
use Rattle.aff_model.specs.Plan.{Planned, has_place}
use Rattle.aff_model.proofs.Sectors.{IsSectored}
use Rattle.aff_spec.specs.Chunks.{chunk_at}
use Rattle.aff_spec.specs.Symbols.{fill_of, unreadable_byte}
use Rattle.aff_spec.proofs.Chunks.{chunk_byte}
use Rattle.aff_image.specs.Sound.{AreSound, IsPlaceIn, IsReading, IsSound}
use Rattle.aff_image.proofs.Sectors.{not_in}
use Rattle.aff_analyst.specs.Bytes.{IsFetched, IsShown, IsShownBy, Keeps, KeepsAt, Shows, chunk_of, stored_before, within_chunk}
use Rattle.aff_analyst.proofs.Stored.{IsStoredAt, stored_at}

-- the place is in its extent
pub inside_by : (i : ℕ) (e : Extent) → has_place i e ≡ true → (e.at ≤ i) × (i < e.at + e.len)
inside_by i e h = (grind (arith, nat_tests), grind (arith, nat_tests))

-- the sector of a place, counted from the first place of its extent
pub sector_of : (a i : ℕ) → a % 512 ≡ 0 → a ≤ i → (i - a) / 512 ≡ i / 512 - a / 512
sector_of a i whole low = omega arith

-- told bytes are the chunk
told_is : {R : Type 0} (told : R → List ℕ) (rs : List R) (n : ℕ) (fetched chunk : List ℕ) → n < length rs → IfSome (slice_get rs n) (λ r. told r ≡ fetched) → IfSome (slice_get rs n) (λ r. told r ≡ chunk) → fetched ≡ chunk
told_is told [] n fetched chunk low f s = absurd (omega (arith, low))
told_is told (r ∷ rs) zero fetched chunk low f s = sym f ∙ s
told_is told (r ∷ rs) (suc n) fetched chunk low f s = told_is told rs n fetched chunk (omega (arith, low)) f s

-- a byte that was read is kept as it was read
kept_at : (case : Option Content) (block : ℕ) (e : Extent) (tells : Bool) {R : Type 0} (told : R → List ℕ) (p : Part R) (s : IsSound case block e tells told p) (k j b byte : ℕ) (place : Place)
    → IsTrue tells → j ≡ k / 32768 → b ≡ k % 32768 → k < length s.bytes → slice_get p.places j ≡ Some place → KeepsAt tells told p j b byte place → byte ≡ get_or s.bytes k 0
kept_at case block e tells told p s k j b byte Nothing t jk bk low is w = absurd w
kept_at case block e tells told p s k j b byte Zero t jk bk low is w =
    let inside : j < length p.places = slice_get_within p.places j Zero is in
    let placed = s.reading.placed j Nothing inside in
    let at : get_or p.places j Nothing ≡ Zero = get_or_from_slice_get p.places j Zero Nothing is in
    let z : IsPlaceIn e s.bytes p.bad j Zero = subst (λ x. IsPlaceIn e s.bytes p.bad j x) at placed in
    w ∙ sym (z.1 k (omega (arith, jk)) (omega (arith, jk)) low)
kept_at case block e tells told p s k j b byte (Chunk c) t jk bk low is w =
    let n = stored_before p.places j in
    let at = stored_at case block e tells told p s j c is in
    let same : w.0 ≡ chunk_at s.bytes j = told_is told p.receipts n w.0 (chunk_at s.bytes j) at.receipts (w.1.told_bytes t) (at.told_chunk t) in
    let sum : 32768 * j + b ≡ k = omega (arith, jk, bk) in
    let there : 32768 * j + b < length s.bytes = omega (arith, sum, low) in
    w.2 ∙ ap (λ l. get_or l b 0) same ∙ get_or_from_slice_get (chunk_at s.bytes j) b (get_or s.bytes (32768 * j + b) 0) 0 (chunk_byte s.bytes j b (omega (arith, bk)) there) ∙ ap (λ x. get_or s.bytes x 0) sum

-- a place of a sound piece's extent is shown as its cell
shown_as : (c : Content) (block : ℕ) (e : Extent) (tells : Bool) {R : Type 0} (told : R → List ℕ) (p : Part R) (i byte : ℕ) → IsSound (Some c) block e tells told p → IsTrue tells → e.at % 512 ≡ 0 → has_place i e ≡ true
    → (bad : Bool) → is_bad_at e (publication_of p) i ≡ bad → Shows tells told e p i byte → byte ≡ fill_of i (cond bad Unreadable (Byte (c.byte i)))
shown_as c block e tells told p i byte s t whole has true is w = subst (λ x. MatchBool x (byte ≡ unreadable_byte i) (Keeps tells told e p i byte)) is w
shown_as c block e tells told p i byte s t whole has false is w =
    let in_e = inside_by i e has in
    let kept : Keeps tells told e p i byte = subst (λ x. MatchBool x (byte ≡ unreadable_byte i) (Keeps tells told e p i byte)) is w in
    let low : i - e.at < length s.bytes = omega (arith, in_e.0, in_e.1, s.reading.len) in
    let few : chunk_of e i < length p.places = omega (arith, low, s.reading.count, s.reading.len) in
    let one = kept_at (Some c) block e tells told p s (i - e.at) (chunk_of e i) ((i - e.at) % 32768) byte (get_or p.places (chunk_of e i) Nothing) t refl refl low (slice_get-get_or p.places (chunk_of e i) Nothing few) kept in
    let sector : (i - e.at) / 512 ≡ sector_in e i = sector_of e.at i whole in_e.0 in
    let good : ¬ (Contains p.bad ((i - e.at) / 512)) = subst (λ x. ¬ (Contains p.bad x)) (sym sector) (not_in p.bad (sector_in e i) is) in
    one ∙ s.reading.known (i - e.at) low good ∙ ap c.byte (omega (arith, in_e.0))

cells_by : (c : Content) (block : ℕ) (o : Option Extent) (tells : Bool) {R : Type 0} (told : R → List ℕ) (p : Part R) (i byte : ℕ) (others : Type 0) (rest : Cell) → MatchOption o ⊥ (λ e. IsSound (Some c) block e tells told p) → IfSome o (λ e. e.at % 512 ≡ 0) → IsTrue tells
    → (others → byte ≡ fill_of i rest) → IsShownBy tells told o p i byte others → byte ≡ fill_of i (cell_by c o (publication_of p) i rest)
cells_by c block None tells told p i byte others rest s whole t below w = absurd s
cells_by c block (Some e) tells told p i byte others rest s whole t below w = by_has (has_place i e) refl
  where
    by_has : (b : Bool) → has_place i e ≡ b → byte ≡ fill_of i (cell_by c (Some e) (publication_of p) i rest)
    by_has true has =
        let one : Shows tells told e p i byte = subst (λ x. MatchBool x (Shows tells told e p i byte) others) has w in
        shown_as c block e tells told p i byte s t whole has (is_bad_at e (publication_of p) i) refl one
        ∙ ap (λ x. fill_of i (cond x (cond (is_bad_at e (publication_of p) i) Unreadable (Byte (c.byte i))) rest)) (sym has)
    by_has false has = below (subst (λ x. MatchBool x (Shows tells told e p i byte) others) has w) ∙ ap (λ x. fill_of i (cond x (cond (is_bad_at e (publication_of p) i) Unreadable (Byte (c.byte i))) rest)) (sym has)

-- shown bytes of sound pieces are cells
pub cells_shown : (c : Content) (plan : Planned) (tells : Bool) {R : Type 0} (told : R → List ℕ) (pieces : List (Part R)) (i byte : ℕ) → ((n : ℕ) → IfSome (slice_get plan.extents n) (λ e. e.at % 512 ≡ 0)) → AreSound (Some c) plan tells told pieces → IsTrue tells
    → IsShown tells told plan.extents pieces i byte → byte ≡ fill_of i (cell_of c plan.extents (map publication_of pieces) i)
cells_shown c plan tells told [] i byte whole s t w = w
cells_shown c plan tells told (p ∷ pieces) i byte whole s t w =
    cells_by c plan.block (slice_get plan.extents p.extent) tells told p i byte (IsShown tells told plan.extents pieces i byte) (cell_of c plan.extents (map publication_of pieces) i)
    (s 0 p (omega arith)) (whole p.extent) t
    (cells_shown c plan tells told pieces i byte whole (λ k d low. s (suc k) d (omega (arith, low))) t) w

-- pieces that are sound for a case are sound for none
none_by : (case : Option Content) (block : ℕ) (e : Extent) (tells : Bool) {R : Type 0} (told : R → List ℕ) (p : Part R) → IsSound case block e tells told p → IsSound None block e tells told p
none_by case block e tells told p s = record {
  bytes = s.bytes;
  reading = record {
    len = s.reading.len;
    fits = record { rising = s.reading.fits.rising; inside = s.reading.fits.inside; together = s.reading.fits.together; weak = tt; every_bad = tt };
    known = tt;
    zero = s.reading.zero;
    count = s.reading.count;
    placed = s.reading.placed;
  };
  digests = s.digests;
  receipts = s.receipts;
  told_chunks = s.told_chunks;
}

none_at : (case : Option Content) (block : ℕ) (o : Option Extent) (tells : Bool) {R : Type 0} (told : R → List ℕ) (p : Part R) → MatchOption o ⊥ (λ e. IsSound case block e tells told p) → MatchOption o ⊥ (λ e. IsSound None block e tells told p)
none_at case block None tells told p s = s
none_at case block (Some e) tells told p s = none_by case block e tells told p s

pub sound_none : (case : Option Content) (plan : Planned) (tells : Bool) {R : Type 0} (told : R → List ℕ) (pieces : List (Part R)) → AreSound case plan tells told pieces → AreSound None plan tells told pieces
sound_none case plan tells told pieces s = λ k d low. none_at case plan.block (slice_get plan.extents (get_or pieces k d).extent) tells told (get_or pieces k d) (s k d low)
