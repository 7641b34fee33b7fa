-- How a place is shown, and of which kind it is, by the piece whose extent holds it.
use Rattle.std.proofs.Common.{◌≡◌, ◌≢◌, ℕ, zero, suc, ◌+◌, ◌<◌, Bool, true, false, cond, Option, None, Some, IfSome, IsTrue, List, [], ◌∷◌, length, map, get_or, refl, sym, ap, subst, ◌∙◌, arith, slice_get}
use Rattle.std.specs.Prelude.{MatchBool}
use Rattle.std.specs.Option.{option_map}
use Rattle.std.specs.List.{list_any}
use Rattle.std.proofs.lemmas.List.{length-map}
use Rattle.std.proofs.lemmas.Option.{same_Some, slice_get-get_or, slice_get-map}
use Rattle.aff_model.specs.declared.cell.Kind.{Kind}
use Rattle.aff_model.specs.declared.cell.Kind.TheVariants.{Known, Unreadable, Unknown}
use Rattle.aff_model.specs.declared.extent.Extent.{Extent}
use Rattle.aff_model.specs.Cells.{is_bad_at}
use Rattle.aff_model.specs.History.{Part, Published, publication_of}
use Rattle.aff_model.specs.Index.{no_extent}
use Rattle.aff_model.specs.Kinds.{kind_at}
use Rattle.aff_model.specs.Plan.{has_place}
use Rattle.aff_model.proofs.Sectors.{IsSectorPlan}
use Rattle.aff_spec.specs.Symbols.{unknown_byte}
use Rattle.aff_core.specs.Steps.{extents_out}
use Rattle.aff_core.proofs.KindLists.{IsHolder, Misses, kind_at-hit, kind_at-miss, misses-all, misses-other}
use Rattle.aff_analyst.specs.Bytes.{IsShown, IsShownBy, Shows}
use Rattle.aff_analyst.specs.Reads.{kind_in}
use Rattle.aff_analyst.specs.Seen.{IsFirstOf, IsOfNone, extents_of}

-- the extents of pieces are those of their publications
pub out_same : {R : Type 0} (pieces : List (Part R)) → extents_out (map publication_of pieces) ≡ extents_of pieces
out_same [] = refl
out_same (p ∷ pieces) = ap (λ l. p.extent ∷ l) (out_same pieces)

by-miss : (tells : Bool) {R : Type 0} (told : R → List ℕ) (o : Option Extent) (p : Part R) (i byte : ℕ) (others : Type 0) → IfSome o (λ e. has_place i e ≡ false) → others → IsShownBy tells told o p i byte others
by-miss tells told None p i byte others h w = w
by-miss tells told (Some e) p i byte others h w = subst (λ b. MatchBool b (Shows tells told e p i byte) others) (sym h) w

by-hit : (tells : Bool) {R : Type 0} (told : R → List ℕ) (o : Option Extent) (p : Part R) (i byte : ℕ) (others : Type 0) (e : Extent) → o ≡ Some e → has_place i e ≡ true → Shows tells told e p i byte → IsShownBy tells told o p i byte others
by-hit tells told o p i byte others e is h w =
    subst (λ x. IsShownBy tells told x p i byte others) (sym is) (subst (λ b. MatchBool b (Shows tells told e p i byte) others) (sym h) w)

-- no piece's extent holds the place
pub shown-miss : (tells : Bool) {R : Type 0} (told : R → List ℕ) (es : List Extent) (pieces : List (Part R)) (i byte : ℕ) → ((q : ℕ) → q < length pieces → Misses es i (get_or (extents_of pieces) q 0)) → byte ≡ unknown_byte i → IsShown tells told es pieces i byte
shown-miss tells told es [] i byte h w = w
shown-miss tells told es (p ∷ pieces) i byte h w =
    by-miss tells told (slice_get es p.extent) p i byte (IsShown tells told es pieces i byte) (h 0 (omega arith)) (shown-miss tells told es pieces i byte (λ q b. h (suc q) (omega arith)) w)

-- the first piece whose extent holds the place
pub shown-hit : (tells : Bool) {R : Type 0} (told : R → List ℕ) (es : List Extent) (pieces : List (Part R)) (i byte q : ℕ) (p : Part R) (e : Extent) → ((k : ℕ) → k < q → Misses es i (get_or (extents_of pieces) k 0)) → slice_get pieces q ≡ Some p → slice_get es p.extent ≡ Some e → has_place i e ≡ true → Shows tells told e p i byte → IsShown tells told es pieces i byte
shown-hit tells told es [] i byte q p e before there of has w = cc
shown-hit tells told es (r ∷ pieces) i byte zero p e before there of has w =
    let same : r ≡ p = same_Some r p there in
    by-hit tells told (slice_get es r.extent) r i byte (IsShown tells told es pieces i byte) e
    (subst (λ x. slice_get es x.extent ≡ Some e) (sym same) of) has (subst (λ x. Shows tells told e x i byte) (sym same) w)
shown-hit tells told es (r ∷ pieces) i byte (suc q) p e before there of has w =
    by-miss tells told (slice_get es r.extent) r i byte (IsShown tells told es pieces i byte) (before 0 (omega arith))
    (shown-hit tells told es pieces i byte q p e (λ k b. before (suc k) (omega arith)) there of has w)

-- a place that no piece's extent holds
pub record IsUnknownAt (tells : Bool) {R : Type 0} (told : R → List ℕ) (es : List Extent) (pieces : List (Part R)) (i : ℕ) : Type 0 where
  pub kind : kind_at es (map publication_of pieces) i ≡ Unknown
  pub shown : (byte : ℕ) → byte ≡ unknown_byte i → IsShown tells told es pieces i byte

unknown_by : (tells : Bool) {R : Type 0} (told : R → List ℕ) (es : List Extent) (pieces : List (Part R)) (i : ℕ) → ((q : ℕ) → q < length pieces → Misses es i (get_or (extents_of pieces) q 0)) → IsUnknownAt tells told es pieces i
unknown_by tells told es pieces i h = record {
  kind = kind_at-miss es (map publication_of pieces) i (λ q b. subst (λ l. Misses es i (get_or l q 0)) (sym (out_same pieces)) (h q (omega (arith, b, length-map pieces publication_of))));
  shown = λ byte w. shown-miss tells told es pieces i byte h w;
}

pub unknown-outside : (tells : Bool) {R : Type 0} (told : R → List ℕ) (es : List Extent) (pieces : List (Part R)) (i : ℕ) → list_any (has_place i) es ≡ false → IsUnknownAt tells told es pieces i
unknown-outside tells told es pieces i none = unknown_by tells told es pieces i (λ q b. misses-all es i none (get_or (extents_of pieces) q 0))

pub unknown-unpublished : (tells : Bool) {R : Type 0} (told : R → List ℕ) (size : ℕ) (es : List Extent) (pieces : List (Part R)) (n i : ℕ) → IsSectorPlan size es → IsHolder es n i → IsOfNone pieces n → IsUnknownAt tells told es pieces i
unknown-unpublished tells told size es pieces n i plan h none =
    unknown_by tells told es pieces i (λ q b. misses-other size es plan i n (get_or (extents_of pieces) q 0) (get_or es n no_extent) h.there h.holds (none q b))

-- the first piece of an extent is of it
pub of_first : {R : Type 0} (pieces : List (Part R)) (n q : ℕ) (p : Part R) → IsFirstOf pieces n q → slice_get pieces q ≡ Some p → p.extent ≡ n
of_first pieces n q p first there =
    let one : slice_get (extents_of pieces) q ≡ Some p.extent = slice_get-map (λ (x : Part _). x.extent) pieces q ∙ ap (λ o. option_map (λ (x : Part _). x.extent) o) there in
    let inside : q < length (extents_of pieces) = omega (arith, first.inside, length-map pieces (λ (x : Part _). x.extent)) in
    let two : slice_get (extents_of pieces) q ≡ Some n = slice_get-get_or (extents_of pieces) q 0 inside ∙ ap Some first.is in
    same_Some p.extent n (sym one ∙ two)

-- a place that a piece's extent holds
pub record IsPublishedAt (tells : Bool) {R : Type 0} (told : R → List ℕ) (es : List Extent) (pieces : List (Part R)) (e : Extent) (p : Part R) (i : ℕ) : Type 0 where
  pub kind : kind_in e p i ≡ kind_at es (map publication_of pieces) i
  pub shown : (byte : ℕ) → Shows tells told e p i byte → IsShown tells told es pieces i byte

pub published-at : (tells : Bool) {R : Type 0} (told : R → List ℕ) (size : ℕ) (es : List Extent) (pieces : List (Part R)) (n i q : ℕ) (p : Part R) → IsSectorPlan size es → IsHolder es n i → IsFirstOf pieces n q → slice_get pieces q ≡ Some p → IsPublishedAt tells told es pieces (get_or es n no_extent) p i
published-at tells told size es pieces n i q p plan h first there =
    let e = get_or es n no_extent in
    let before : (k : ℕ) → k < q → Misses es i (get_or (extents_of pieces) k 0) = λ k b. misses-other size es plan i n (get_or (extents_of pieces) k 0) e h.there h.holds (first.first k b) in
    let planned : slice_get es p.extent ≡ Some e = ap (slice_get es) (of_first pieces n q p first there) ∙ h.there in
    let is : slice_get (map publication_of pieces) q ≡ Some (publication_of p) = slice_get-map publication_of pieces q ∙ ap (λ o. option_map publication_of o) there in
    record {
      kind = sym (kind_at-hit es (map publication_of pieces) i q (publication_of p) e (λ k b. subst (λ l. Misses es i (get_or l k 0)) (sym (out_same pieces)) (before k b)) is planned h.holds);
      shown = λ byte w. shown-hit tells told es pieces i byte q p e before there planned h.holds w;
    }
