-- A piece that was read whole is shown.
use Rattle.std.proofs.Common.{◌≡◌, ℕ, zero, suc, ◌+◌, ◌*◌, ◌/◌, ◌%◌, ◌<◌, ◌≤◌, ◌^◌, IsTrue, Bool, true, false, cond, Option, None, Some, List, [], ◌∷◌, length, map, take, get_or, refl, sym, ap, subst, ◌∙◌, arith, length-take, slice_get}
use Rattle.std.specs.Prelude.{All, Contains, Err, MatchBool, MatchOption, Ok, OnOk, Result}
use Rattle.std.proofs.lemmas.Bool.Decides.{not_from_Decides}
use Rattle.std.proofs.lemmas.List.{ext_get_or, get_or-take}
use Rattle.std.proofs.lemmas.List.Elements.{Contains-get_or}
use Rattle.std.specs.Option.{option_map}
use Rattle.std.proofs.lemmas.Option.{get_or_from_slice_get, slice_get-get_or, slice_get-map, slice_get_within}
use Rattle.std.proofs.lemmas.List.FromFn.{get_or-map-range_with_len, length-map-range_with_len}
use Rattle.aff_model.specs.declared.extent.Extent.{Extent}
use Rattle.aff_model.specs.declared.cell.Cell.TheVariants.{Byte, Unreadable}
use Rattle.aff_model.specs.Cells.{cell_of, is_bad_at}
use Rattle.aff_model.specs.Content.{Content}
use Rattle.aff_model.specs.History.{Part, publication_of}
use Rattle.aff_model.specs.Plan.{IsPlan, Planned, has_place}
use Rattle.aff_model.proofs.Find.{has_place-inside}
use Rattle.aff_model.proofs.Sectors.{IsSectored, sector_plan}
use Rattle.aff_outside.specs.Seen.{IsSeen}
use Rattle.aff_spec.specs.Symbols.{fill_of, unreadable_byte}
use Rattle.aff_image.specs.Sound.{AreSound, IsSound}
use Rattle.aff_image.proofs.Legals.{Decides-bad}
use Rattle.aff_analyst.specs.Bytes.{IsShown, IsShownBy, Keeps, Shows}
use Rattle.aff_examine.specs.Folds.{Sight}
use Rattle.aff_examine.specs.Reading.{IsGathered, IsReadIn, sight_of}
use Rattle.aff_examine.specs.Sights.{Gives, IsSight, IsSightOf, shown_as, shown_bytes}

-- bytes over which 0 was put at the sectors of a list
pub record IsBlanked (bad old new : List ℕ) : Type 0 where
  pub len : length new ≡ length old
  pub zero : (k : ℕ) → k < length old → Contains bad (k / 512) → get_or new k 0 ≡ 0
  pub same : (k : ℕ) → k < length old → ¬ (Contains bad (k / 512)) → get_or new k 0 ≡ get_or old k 0

shows_by : (tells : Bool) {R : Type 0} (told : R → List ℕ) (o : Option Extent) (e : Extent) (p : Part R) (i byte : ℕ) (others : Type 0) → o ≡ Some e → has_place i e ≡ true → IsShownBy tells told o p i byte others → Shows tells told e p i byte
shows_by tells told o e p i byte others is has w = subst (λ b. MatchBool b (Shows tells told e p i byte) others) has (subst (λ x. IsShownBy tells told x p i byte others) is w)

gives_by : (tells : Bool) {R : Type 0} (told : R → List ℕ) (e : Extent) (p : Part R) (k old new : ℕ) → e.at % 512 ≡ 0 → (Contains p.bad (k / 512) → new ≡ 0) → (¬ (Contains p.bad (k / 512)) → new ≡ old) → Shows tells told e p (e.at + k) old → Gives tells told e p (e.at + k) new
gives_by tells told e p k old new whole cleared same =
    let i = e.at + k in
    let d = Decides-bad e (publication_of p) k whole in
    elim (is_bad_at e (publication_of p) i) as (λ b. is_bad_at e (publication_of p) i ≡ b → MatchBool b (old ≡ unreadable_byte i) (Keeps tells told e p i old) → MatchBool b (new ≡ 0) (Keeps tells told e p i new)) [
      | true ↦ λ is w. cleared (d.0 is)
      | false ↦ λ is w. subst (Keeps tells told e p i) (sym (same (not_from_Decides (is_bad_at e (publication_of p) i) d is))) w
    ] refl

byte_by : (c : Content) (e : Extent) {R : Type 0} (p : Part R) (k old new : ℕ) → e.at % 512 ≡ 0 → (Contains p.bad (k / 512) → new ≡ 0) → (¬ (Contains p.bad (k / 512)) → new ≡ old)
    → old ≡ fill_of (e.at + k) (cond (is_bad_at e (publication_of p) (e.at + k)) Unreadable (Byte (c.byte (e.at + k)))) → new ≡ cond (is_bad_at e (publication_of p) (e.at + k)) 0 (c.byte (e.at + k))
byte_by c e p k old new whole cleared same =
    let i = e.at + k in
    let d = Decides-bad e (publication_of p) k whole in
    elim (is_bad_at e (publication_of p) i) as (λ b. is_bad_at e (publication_of p) i ≡ b → old ≡ fill_of i (cond b Unreadable (Byte (c.byte i))) → new ≡ cond b 0 (c.byte i)) [
      | true ↦ λ is w. cleared (d.0 is)
      | false ↦ λ is w. same (not_from_Decides (is_bad_at e (publication_of p) i) d is) ∙ w
    ] refl

cell_here : (c : Content) (extents : List Extent) (e : Extent) {R : Type 0} (p : Part R) (i : ℕ) → slice_get extents p.extent ≡ Some e → has_place i e ≡ true → cell_of c extents (publication_of p ∷ []) i ≡ cond (is_bad_at e (publication_of p) i) Unreadable (Byte (c.byte i))
cell_here c extents e p i is has = rw is (rw has refl)

only_sound : (c : Content) (plan : Planned) (tells : Bool) {R : Type 0} (told : R → List ℕ) (p : Part R) (e : Extent) → slice_get plan.extents p.extent ≡ Some e → IsSound (Some c) plan.block e tells told p → AreSound (Some c) plan tells told (p ∷ [])
only_sound c plan tells told p e is sound zero d low = subst (λ o. MatchOption o ⊥ (λ x. IsSound (Some c) plan.block x tells told p)) (sym is) sound
only_sound c plan tells told p e is sound (suc k) d low = absurd (omega (arith, low))

pub is_sight : (plan : Planned) (tells : Bool) {R : Type 0} (told : R → List ℕ) (front : ℕ) (p : Part R) (e : Extent) (out new : List ℕ) → slice_get plan.extents p.extent ≡ Some e → e.at % 512 ≡ 0 → e.len ≤ length out → IsGathered plan tells told p e.at e.len out → IsBlanked p.bad out new
    → IsSight plan.block tells told front e p (sight_of e front p new)
is_sight plan tells told front p e out new planned whole room gathered blanked = record {
  piece = refl;
  len = count;
  each = λ k low. subst (Gives tells told e p (e.at + k)) (sym (get_or-take e.len new k 0 low)) (gives k low);
  content = λ t c sound. ext_get_or 0 (take e.len new) (shown_bytes c e (publication_of p)) (count ∙ sym (length-map-range_with_len (λ i. cond (is_bad_at e (publication_of p) i) 0 (c.byte i)) e.at e.len)) (λ k below.
      let low : k < e.len = omega (arith, below, count) in
      get_or-take e.len new k 0 low ∙ byte t c sound k low ∙ sym (get_or-map-range_with_len (λ i. cond (is_bad_at e (publication_of p) i) 0 (c.byte i)) e.at e.len k (e.at + k) 0 low refl));
}
  where
    count : length (take e.len new) ≡ e.len
    count = omega (arith, length-take e.len new, blanked.len, room)

    inside : (k : ℕ) → k < e.len → k < length out
    inside k low = omega (arith, low, room)

    here : (k : ℕ) → k < e.len → has_place (e.at + k) e ≡ true
    here k low = has_place-inside e (e.at + k) (omega arith) (omega (arith, low))

    gives : (k : ℕ) → k < e.len → Gives tells told e p (e.at + k) (get_or new k 0)
    gives k low = gives_by tells told e p k (get_or out k 0) (get_or new k 0) whole (blanked.zero k (inside k low)) (blanked.same k (inside k low))
        (shows_by tells told (slice_get plan.extents p.extent) e p (e.at + k) (get_or out k 0) (IsShown tells told plan.extents [] (e.at + k) (get_or out k 0)) planned (here k low) (gathered.each k low))

    byte : IsTrue tells → (c : Content) → IsSound (Some c) plan.block e tells told p → (k : ℕ) → k < e.len → get_or new k 0 ≡ cond (is_bad_at e (publication_of p) (e.at + k)) 0 (c.byte (e.at + k))
    byte t c sound k low = byte_by c e p k (get_or out k 0) (get_or new k 0) whole (blanked.zero k (inside k low)) (blanked.same k (inside k low))
        (gathered.cells t c (only_sound c plan tells told p e planned sound) k low ∙ ap (fill_of (e.at + k)) (cell_here c plan.extents e p (e.at + k) planned (here k low)))

zero_sector : (n s : ℕ) (new : List ℕ) → ((k : ℕ) → k < n → k / 512 ≡ s → get_or new k 0 ≡ 0) → s < n / 512 → (j : ℕ) → j < 512 → get_or (take n new) (512 * s + j) 0 ≡ 0
zero_sector n s new cleared low j within = get_or-take n new (512 * s + j) 0 (omega (arith, low, within)) ∙ cleared (512 * s + j) (omega (arith, low, within)) (omega (arith, within))

pub is_seen : (size : ℕ) (front : ℕ) {R : Type 0} (p : Part R) (case : Option Content) (block : ℕ) (tells : Bool) (told : R → List ℕ) (e : Extent) (out new : List ℕ) → IsSectored size e → size < 2 ^ 64 → IsSound case block e tells told p → e.len ≤ length out → IsBlanked p.bad out new
    → IsSeen (shown_as e front (publication_of p)) (take e.len new)
is_seen size front p case block tells told e out new is small sound room blanked = record {
  len = omega (arith, length-take e.len new, blanked.len, room);
  whole = is.len_whole;
  short = is.short;
  fits = omega (arith, is.inside, small);
  rising = sound.reading.fits.rising;
  inside = sound.reading.fits.inside;
  zero = λ n d low. zero_sector e.len (get_or p.bad n d) new
      (λ k within sector. blanked.zero k (omega (arith, within, room)) (subst (Contains p.bad) (sym sector) (Contains-get_or p.bad n d low)))
      (sound.reading.fits.inside n d low);
}

pub is_read : (case : Option Content) (plan : Planned) (tells : Bool) {R : Type 0} (told : R → List ℕ) (p : Part R) (e : Extent) (out new : List ℕ) → slice_get plan.extents p.extent ≡ Some e → IsSectored plan.size e → plan.size < 2 ^ 64 → IsSound case plan.block e tells told p → e.len ≤ length out
    → IsGathered plan tells told p e.at e.len out → IsBlanked p.bad out new → IsReadIn plan.block tells told e p new
is_read case plan tells told p e out new planned is small sound room gathered blanked = record {
  room = omega (arith, room, blanked.len);
  sight = λ front. is_sight plan tells told front p e out new planned is.at_whole room gathered blanked;
  seen = λ front. is_seen plan.size front p case plan.block tells told e out new is small sound room blanked;
}

-- the extent of a number of a plan
pub sectored_at : (plan : Planned) (n : ℕ) (e : Extent) → IsPlan plan.size plan.block plan.extents → slice_get plan.extents n ≡ Some e → IsSectored plan.size e
sectored_at plan n e is planned = subst (IsSectored plan.size) (get_or_from_slice_get plan.extents n e e planned) ((sector_plan plan.size plan.block plan.extents is).each n e (slice_get_within plan.extents n e planned))

-- the view of an element of a list
pub view_at : {X : Type 0} {R : Type 0} (view : X → Part R) (xs : List X) (k : ℕ) (x : X) (p : Part R) → k < length xs → x ≡ get_or xs k x → p ≡ view x → slice_get (map view xs) k ≡ Some p
view_at view xs k x p low is same = slice_get-map view xs k ∙ ap (λ o. option_map view o) (slice_get-get_or xs k x low ∙ ap Some (sym is)) ∙ ap Some (sym same)

-- a sound piece is of an extent of the plan
within_by : (extents : List Extent) (n : ℕ) (P : Extent → Type 0) (o : Option Extent) → slice_get extents n ≡ o → MatchOption o ⊥ P → n < length extents
within_by extents n P None is w = absurd w
within_by extents n P (Some e) is w = slice_get_within extents n e is

module _ (case : Option Content) (plan : Planned) (tells : Bool) {R : Type 0} (told : R → List ℕ) (pieces : List (Part R)) (q : ℕ) (p : Part R) (sound : AreSound case plan tells told pieces) (there : slice_get pieces q ≡ Some p) where
  one_sound : MatchOption (slice_get plan.extents p.extent) ⊥ (λ e. IsSound case plan.block e tells told p)
  one_sound = subst (λ x. MatchOption (slice_get plan.extents x.extent) ⊥ (λ e. IsSound case plan.block e tells told x)) (get_or_from_slice_get pieces q p p there) (sound q p (slice_get_within pieces q p there))

  pub planned_at : p.extent < length plan.extents
  planned_at = within_by plan.extents p.extent (λ e. IsSound case plan.block e tells told p) (slice_get plan.extents p.extent) refl one_sound

  pub sound_at : (e : Extent) → slice_get plan.extents p.extent ≡ Some e → IsSound case plan.block e tells told p
  sound_at e is = subst (λ o. MatchOption o ⊥ (λ x. IsSound case plan.block x tells told p)) is one_sound

-- the room of the extent of a number
pub room_at : (extents : List Extent) (P : Extent → Type 0) (n : ℕ) (e : Extent) → All P extents → slice_get extents n ≡ Some e → P e
room_at extents P n e all is = subst P (get_or_from_slice_get extents n e e is) (all n e (slice_get_within extents n e is))

-- a piece that was read is shown as the one of its extent
pub sight_in : (plan : Planned) (tells : Bool) {R : Type 0} (told : R → List ℕ) (front : ℕ) (p : Part R) (e : Extent) (s : Sight) → slice_get plan.extents p.extent ≡ Some e → IsSight plan.block tells told front e p s → IsSightOf plan tells told front p s
sight_in plan tells told front p e s is sight = subst (λ o. MatchOption o ⊥ (λ x. IsSight plan.block tells told front x p s)) (sym is) sight

-- what holds of a call's result in the case that it took
pub ok_case : {T E : Type 0} (P : Type 0) (r : Result T E) (x : T) → r ≡ Ok x → P → OnOk r P
ok_case P r x is w = subst (λ s. OnOk s P) (sym is) w

pub err_case : {T E : Type 0} (P : Type 0) (r : Result T E) (e : E) → r ≡ Err e → OnOk r P
err_case P r e is = subst (λ s. OnOk s P) (sym is) tt

pub from_ok : {T E : Type 0} (P : Type 0) (r : Result T E) (x : T) → r ≡ Ok x → OnOk r P → P
from_ok P r x is w = subst (λ s. OnOk s P) is w
