-- Parts of a range, each of one extent or of none, as they are shown by some pieces.
use Rattle.std.proofs.Common.{◌≡◌, ◌≢◌, ℕ, ◌+◌, ◌-◌, ◌/◌, ◌%◌, ◌^◌, ◌<◌, ◌≤◌, Bool, true, false, Option, None, Some, IsSomeAnd, IsTrue, List, length, map, get_or, sym, ap, subst, ◌∙◌, arith, All, slice_get}
use Rattle.std.specs.Prelude.{MatchOption}
use Rattle.std.specs.Option.{option_map}
use Rattle.std.specs.List.{list_any}
use Rattle.std.proofs.lemmas.Bool.{false≢true}
use Rattle.std.proofs.lemmas.List.{length-map}
use Rattle.std.proofs.lemmas.List.Folds.{list_any_at, list_any_none}
use Rattle.std.proofs.lemmas.Option.{get_or_from_slice_get, slice_get-get_or, slice_get-map, slice_get_within}
use Rattle.aff_model.specs.declared.cell.Kind.TheVariants.{Unknown}
use Rattle.aff_model.specs.declared.cell.Run.{Run}
use Rattle.aff_model.specs.declared.extent.Extent.{Extent}
use Rattle.aff_model.specs.History.{Part, publication_of}
use Rattle.aff_model.specs.Index.{no_extent}
use Rattle.aff_model.specs.Kinds.{kind_at}
use Rattle.aff_model.specs.Plan.{Planned, has_place}
use Rattle.aff_model.proofs.Find.{has_place-inside}
use Rattle.aff_model.proofs.Sectors.{IsSectored, IsSectorPlan}
use Rattle.aff_spec.specs.Symbols.{unknown_byte}
use Rattle.aff_image.specs.Sound.{AreSound, IsSound}
use Rattle.aff_core.proofs.KindLists.{IsHolder, holder, not_true}
use Rattle.aff_analyst.specs.Bytes.{IsShown, Shows}
use Rattle.aff_analyst.specs.Reads.{IsInside, IsReadTo, IsWhole, kind_in}
use Rattle.aff_analyst.specs.Seen.{IsFirstOf, IsOfNone, extents_of}
use Rattle.aff_analyst.proofs.Contents.{inside_by}
use Rattle.aff_analyst.proofs.Shown.{IsUnknownAt, of_first, published-at, unknown-outside, unknown-unpublished}
use Rattle.aff_analyst.proofs.Steps.{read_as}

-- a place beside one that no extent holds, in its sector
outside_along : (size : ℕ) (es : List Extent) (i j : ℕ) → All (IsSectored size) es → i / 512 ≡ j / 512 → list_any (has_place j) es ≡ false → list_any (has_place i) es ≡ false
outside_along size es i j each same none =
    list_any_none (has_place i) es (λ k d b. not_true (has_place i (get_or es k d)) (λ has.
    let e = each k d b in
    let inner = inside_by i (get_or es k d) has in
    let there : has_place j (get_or es k d) ≡ true = has_place-inside (get_or es k d) j (omega (arith, same, e.at_whole, inner.0)) (omega (arith, same, e.at_whole, e.len_whole, inner.1)) in
    false≢true (sym none ∙ list_any_at (has_place j) es k d b there)))

-- the extent of a number, in a list that is the plan's: it holds the place
pub record IsFound (es xs : List Extent) (n at : ℕ) : Type 0 where
  pub inside : n < length xs
  pub same : get_or xs n no_extent ≡ get_or es n no_extent
  pub holder : IsHolder es n at
  pub whole : IsWhole (get_or xs n no_extent)
  pub from : (get_or xs n no_extent).at ≤ at
  pub to : at < (get_or xs n no_extent).at + (get_or xs n no_extent).len
  pub planned : slice_get es n ≡ Some (get_or xs n no_extent)

whole_of : (size : ℕ) (e : Extent) → IsSectored size e → size < 2 ^ 64 → IsWhole e
whole_of size e s small = record { at_whole = s.at_whole; len_whole = s.len_whole; short = s.short; fits = omega (arith, s.inside, small) }

pub found_in : (size : ℕ) (es xs : List Extent) (n at : ℕ) → IsSectorPlan size es → size < 2 ^ 64 → xs ≡ es → IsSomeAnd (slice_get es n) (λ e. IsTrue (has_place at e)) → IsFound es xs n at
found_in size es xs n at plan small is h =
    let hold = holder es n at h in
    let same : get_or xs n no_extent ≡ get_or es n no_extent = ap (λ l. get_or l n no_extent) is in
    let inner = inside_by at (get_or es n no_extent) hold.holds in
    record {
      inside = subst (λ l. n < length l) (sym is) hold.inside;
      same = same;
      holder = hold;
      whole = subst IsWhole (sym same) (whole_of size (get_or es n no_extent) (plan.each n no_extent hold.inside) small);
      from = subst (λ e. e.at ≤ at) (sym same) inner.0;
      to = subst (λ e. at < e.at + e.len) (sym same) inner.1;
      planned = hold.there ∙ ap Some (sym same);
    }

-- an element of a list, by what it is seen as
pub view_at : {X Y : Type 0} (view : X → Y) (xs : List X) (k : ℕ) (x : X) → k < length xs → x ≡ get_or xs k x → slice_get (map view xs) k ≡ Some (view x)
view_at view xs k x low is = slice_get-map view xs k ∙ ap (λ o. option_map view o) (slice_get-get_or xs k x low ∙ ap Some (sym is))

pub extent_at_place : {R : Type 0} (pieces : List (Part R)) (k : ℕ) (p : Part R) → slice_get pieces k ≡ Some p → get_or (extents_of pieces) k 0 ≡ p.extent
extent_at_place pieces k p there =
    let f : Part _ → ℕ = λ x. x.extent in
    get_or_from_slice_get (extents_of pieces) k p.extent 0 (slice_get-map f pieces k ∙ ap (λ o. option_map f o) there)

-- the first piece of an extent, among pieces as they are seen
pub record IsSeen {R : Type 0} (pieces : List (Part R)) (n q : ℕ) (p : Part R) : Type 0 where
  pub first : IsFirstOf pieces n q
  pub there : slice_get pieces q ≡ Some p
  pub of : p.extent ≡ n

pub seen_at : {X R : Type 0} (xs : List X) (view : X → Part R) (n q : ℕ) (x : X) (p : Part R) → q < length xs → get_or (extents_of (map view xs)) q 0 ≡ n → ((k : ℕ) → k < q → get_or (extents_of (map view xs)) k 0 ≢ n)
    → x ≡ get_or xs q x → p ≡ view x → IsSeen (map view xs) n q p
seen_at xs view n q x p low is before read same =
    let first : IsFirstOf (map view xs) n q = record { inside = omega (arith, low, length-map xs view); is = is; first = before } in
    let there : slice_get (map view xs) q ≡ Some p = view_at view xs q x low read ∙ ap Some (sym same) in
    record { first = first; there = there; of = of_first (map view xs) n q p first there }

-- a piece of an extent of the plan is sound
by_extent : (block : ℕ) (o : Option Extent) (e : Extent) (tells : Bool) {R : Type 0} (told : R → List ℕ) (p : Part R) → o ≡ Some e → MatchOption o ⊥ (λ x. IsSound None block x tells told p) → IsSound None block e tells told p
by_extent block o e tells told p is s = subst (λ x. MatchOption x ⊥ (λ y. IsSound None block y tells told p)) is s

pub sound_at : (plan : Planned) (tells : Bool) {R : Type 0} (told : R → List ℕ) (pieces : List (Part R)) (q : ℕ) (p : Part R) (e : Extent) → AreSound None plan tells told pieces → slice_get pieces q ≡ Some p → slice_get plan.extents p.extent ≡ Some e → IsSound None plan.block e tells told p
sound_at plan tells told pieces q p e sound there planned =
    let one = sound q p (slice_get_within pieces q p there) in
    let read : get_or pieces q p ≡ p = get_or_from_slice_get pieces q p p there in
    by_extent plan.block (slice_get plan.extents p.extent) e tells told p planned (subst (λ x. MatchOption (slice_get plan.extents x.extent) ⊥ (λ y. IsSound None plan.block y tells told x)) read one)

-- the extent that holds a place holds those of a range from it on inside the extent
pub holder_along : (es : List Extent) (n at len k : ℕ) → IsHolder es n at → IsInside (get_or es n no_extent) at len → k < len → IsHolder es n (at + k)
holder_along es n at len k h inner low = record {
  inside = h.inside;
  there = h.there;
  holds = has_place-inside (get_or es n no_extent) (at + k) (omega (arith, inner.from)) (omega (arith, inner.to, low));
}

-- a part that was filled as unknown, and is
unknown_part : (tells : Bool) {R : Type 0} (told : R → List ℕ) (es : List Extent) (pieces : List (Part R)) (at : ℕ) (xs : List ℕ) (r0 r1 : List Run)
    → ((k : ℕ) → k < length xs → IsUnknownAt tells told es pieces (at + k))
    → IsReadTo (λ i. Unknown) (λ i byte. byte ≡ unknown_byte i) at xs r0 r1 → IsReadTo (kind_at es (map publication_of pieces)) (IsShown tells told es pieces) at xs r0 r1
unknown_part tells told es pieces at xs r0 r1 all had =
    read_as (λ i. Unknown) (kind_at es (map publication_of pieces)) (λ i byte. byte ≡ unknown_byte i) (IsShown tells told es pieces) at xs r0 r1
    (λ k low. sym (all k low).kind) (λ k v low w. (all k low).shown v w) had

-- a part of a sector that is in no extent
pub part_outside : (tells : Bool) {R : Type 0} (told : R → List ℕ) (size : ℕ) (es : List Extent) (pieces : List (Part R)) (at : ℕ) (xs : List ℕ) (r0 r1 : List Run)
    → IsSectorPlan size es → length xs ≤ 512 - at % 512 → list_any (has_place at) es ≡ false
    → IsReadTo (λ i. Unknown) (λ i byte. byte ≡ unknown_byte i) at xs r0 r1 → IsReadTo (kind_at es (map publication_of pieces)) (IsShown tells told es pieces) at xs r0 r1
part_outside tells told size es pieces at xs r0 r1 plan short none had =
    unknown_part tells told es pieces at xs r0 r1
    (λ k low. unknown-outside tells told es pieces (at + k) (outside_along size es (at + k) at plan.each (omega (arith, short, low)) none)) had

-- a part of an extent that nobody has published
pub part_unpublished : (tells : Bool) {R : Type 0} (told : R → List ℕ) (size : ℕ) (es : List Extent) (pieces : List (Part R)) (n at : ℕ) (xs : List ℕ) (r0 r1 : List Run)
    → IsSectorPlan size es → IsHolder es n at → IsInside (get_or es n no_extent) at (length xs) → IsOfNone pieces n
    → IsReadTo (λ i. Unknown) (λ i byte. byte ≡ unknown_byte i) at xs r0 r1 → IsReadTo (kind_at es (map publication_of pieces)) (IsShown tells told es pieces) at xs r0 r1
part_unpublished tells told size es pieces n at xs r0 r1 plan h inner none had =
    unknown_part tells told es pieces at xs r0 r1
    (λ k low. unknown-unpublished tells told size es pieces n (at + k) plan (holder_along es n at (length xs) k h inner low) none) had

-- a part of a published extent
pub part_published : (tells : Bool) {R : Type 0} (told : R → List ℕ) (size : ℕ) (es : List Extent) (pieces : List (Part R)) (n at q : ℕ) (p : Part R) (xs : List ℕ) (r0 r1 : List Run)
    → IsSectorPlan size es → IsHolder es n at → IsInside (get_or es n no_extent) at (length xs) → IsFirstOf pieces n q → slice_get pieces q ≡ Some p
    → IsReadTo (kind_in (get_or es n no_extent) p) (Shows tells told (get_or es n no_extent) p) at xs r0 r1 → IsReadTo (kind_at es (map publication_of pieces)) (IsShown tells told es pieces) at xs r0 r1
part_published tells told size es pieces n at q p xs r0 r1 plan h inner first there had =
    let one = λ (k : ℕ) (low : k < length xs). published-at tells told size es pieces n (at + k) q p plan (holder_along es n at (length xs) k h inner low) first there in
    read_as (kind_in (get_or es n no_extent) p) (kind_at es (map publication_of pieces)) (Shows tells told (get_or es n no_extent) p) (IsShown tells told es pieces) at xs r0 r1
    (λ k low. (one k low).kind) (λ k v low w. (one k low).shown v w) had
