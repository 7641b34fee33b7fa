-- Unreadable sectors, and the spots of an extent's bytes by them.
use Rattle.std.proofs.Common.{◌≡◌, ℕ, ◌+◌, ◌-◌, ◌*◌, ◌/◌, ◌%◌, ◌<◌, ◌≤◌, ◌==◌, Bool, true, false, cond, List, length, get_or, refl, sym, ap, ◌∙◌, subst, arith, inl, inr, Result, Ok, Err, eq-eqb}
use Rattle.std.specs.Prelude.{Some, slice_get}
use Rattle.std.specs.List.{Contains, list_any}
use Rattle.std.specs.List.Sorted.{IsBinarySearchResult, IsStrictlyIncreasing}
use Rattle.std.specs.Ordering.{nat_cmp}
use Rattle.std.specs.Result.{is_ok}
use Rattle.std.proofs.lemmas.Bool.{cases_lt}
use Rattle.std.proofs.lemmas.Bool.Decides.{nat_tests}
use Rattle.std.proofs.lemmas.List.{get_or_default}
use Rattle.std.proofs.lemmas.List.Elements.{Contains-get_or}
use Rattle.std.proofs.lemmas.List.Folds.{list_any_at, list_any_none}
use Rattle.std.proofs.lemmas.List.Sorted.{searched}
use Rattle.std.proofs.lemmas.Map.Keys.{non_decreasing_from_sorted, sorted_from_strictly_increasing}
use Rattle.std.proofs.lemmas.Option.{slice_get-get_or}
use Rattle.aff_model.specs.declared.extent.Extent.{Extent}
use Rattle.aff_model.specs.declared.publication.Place.{Place}
use Rattle.aff_model.specs.declared.publication.Place.TheVariants.{Nothing}
use Rattle.aff_model.specs.Cells.{sector_in}
use Rattle.aff_fields.specs.declared.entry.Entry.{Entry}
use Rattle.aff_spec.specs.Runs.{place_spot, spot_in}
use Rattle.aff_map.specs.Building.{Adds, extent_spot, sector_spot}
use Rattle.aff_map.proofs.Adding.{Adds-bounds, Adds-same}

never_falls : (bad : List ℕ) → IsStrictlyIncreasing bad → (i j : ℕ) → i ≤ j → j < length bad → get_or bad i 0 ≤ get_or bad j 0
never_falls bad rising i j h below = non_decreasing_from_sorted bad (sorted_from_strictly_increasing bad rising) i j 0 h below

differs : (t s : ℕ) → t < s → (t == s) ≡ false
differs t s h = grind (arith, nat_tests)

differs_above : (t s : ℕ) → s < t → (t == s) ≡ false
differs_above t s h = grind (arith, nat_tests)

-- what a search among rising numbers tells of the number
pub is_ok-search : (bad : List ℕ) (s : ℕ) (r : Result ℕ ℕ) → IsBinarySearchResult (λ y. nat_cmp y s) bad r → IsStrictlyIncreasing bad → is_ok r ≡ list_any (λ t. t == s) bad
is_ok-search bad s (Ok i) found rising =
    let at = searched bad s (Ok i) found (never_falls bad rising) in
    sym (list_any_at (λ t. t == s) bad i 0 at.0 (eq-eqb (get_or bad i 0) s at.1))
is_ok-search bad s (Err i) found rising =
    let at = searched bad s (Err i) found (never_falls bad rising) in
    sym (list_any_none (λ t. t == s) bad (λ k d below.
    subst (λ t. (t == s) ≡ false) (get_or_default bad k 0 d below)
    (elim (cases_lt k i) [ inl low ↦ differs (get_or bad k 0) s (at.1 k low) | inr high ↦ differs_above (get_or bad k 0) s (at.2 k high below) ])))

-- the numbers up to a place are below the range, and the next one is no part of it
pub clear_between : (bad : List ℕ) (first last i : ℕ) → ((k : ℕ) → k < i → get_or bad k 0 < first) → ((k : ℕ) → i ≤ k → k < length bad → last ≤ get_or bad k 0) → (s : ℕ) → first ≤ s → s < last → ¬ (Contains bad s)
clear_between bad first last i low high s from to in_bad =
    let k : ℕ = in_bad.0 in
    let at : get_or bad in_bad.0 0 ≡ s = get_or_default bad in_bad.0 0 s in_bad.1 ∙ in_bad.2 in
    elim (cases_lt in_bad.0 i) [
      | inl below ↦ let h = low in_bad.0 below in omega (arith, h, at, from)
      | inr above ↦ let h = high in_bad.0 above in_bad.1 in omega (arith, h, at, to)
    ]

pub clear_at_end : (bad : List ℕ) (first last i : ℕ) → IsBinarySearchResult (λ y. nat_cmp y first) bad (Err i) → IsStrictlyIncreasing bad → i ≡ length bad → (s : ℕ) → first ≤ s → s < last → ¬ (Contains bad s)
clear_at_end bad first last i found rising whole =
    let at = searched bad first (Err i) found (never_falls bad rising) in
    clear_between bad first last i at.1 (λ k h below. absurd (omega arith))

pub clear_before_next : (bad : List ℕ) (first last i : ℕ) → IsBinarySearchResult (λ y. nat_cmp y first) bad (Err i) → IsStrictlyIncreasing bad → last ≤ get_or bad i 0 → (s : ℕ) → first ≤ s → s < last → ¬ (Contains bad s)
clear_before_next bad first last i found rising next =
    let at = searched bad first (Err i) found (never_falls bad rising) in
    clear_between bad first last i at.1 (λ k h below. let more = never_falls bad rising i k h below in omega (arith, more, next))

pub next_of_clear : (bad : List ℕ) (first last i : ℕ) → IsBinarySearchResult (λ y. nat_cmp y first) bad (Err i) → IsStrictlyIncreasing bad → i < length bad → ((s : ℕ) → first ≤ s → s < last → ¬ (Contains bad s)) → last ≤ get_or bad i 0
next_of_clear bad first last i found rising below clear =
    let at = searched bad first (Err i) found (never_falls bad rising) in
    let above : first < get_or bad i 0 = at.2 i (omega arith) below in
    elim (cases_lt (get_or bad i 0) last) [
      | inl inside ↦ absurd (clear (get_or bad i 0) (omega arith) inside (Contains-get_or bad i 0 below))
      | inr outside ↦ outside
    ]

unequal : (t s : ℕ) → ¬ (t ≡ s) → (t == s) ≡ false
unequal t s other = grind (arith, nat_tests)

-- a clear range holds no unreadable sector
list_any_clear : (bad : List ℕ) (s : ℕ) → ¬ (Contains bad s) → list_any (λ t. t == s) bad ≡ false
list_any_clear bad s clear =
    list_any_none (λ t. t == s) bad (λ k d below. unequal (get_or bad k d) s (λ same. clear (subst (Contains bad) same (Contains-get_or bad k d below))))

-- the sector of a byte of a range of sectors
sector_within : (e : Extent) (first last i : ℕ) → e.at % 512 ≡ 0 → e.at + 512 * first ≤ i → i < e.at + 512 * last → (first ≤ sector_in e i) × (sector_in e i < last)
sector_within e first last i whole low high = (omega arith, omega arith)

-- a run of sectors that are all readable
pub Adds-clear : (e : Extent) (bad : List ℕ) (place : Place) (first last : ℕ) (run : Entry) (old new : List Entry) → e.at % 512 ≡ 0
    → run.at ≡ e.at + 512 * first → run.at + run.len ≡ e.at + 512 * last
    → ((i : ℕ) → run.at ≤ i → i < run.at + run.len → place_spot (Some place) e i ≡ Some (spot_in i run))
    → ((s : ℕ) → first ≤ s → s < last → ¬ (Contains bad s))
    → Adds run.at (run.at + run.len) (λ i. Some (spot_in i run)) old new
    → Adds (e.at + 512 * first) (e.at + 512 * last) (sector_spot e bad (Some place)) old new
Adds-clear e bad place first last run old new whole at end spots clear adds =
    Adds-bounds _ _ _ _ (sector_spot e bad (Some place)) old new at end
    (Adds-same run.at (run.at + run.len) (λ i. Some (spot_in i run)) (sector_spot e bad (Some place)) old new
    (λ i low high.
    let s = sector_within e first last i whole (omega (arith, low, at)) (omega (arith, high, end)) in
    sym (ap (λ b. cond b (Some (2, i)) (place_spot (Some place) e i)) (list_any_clear bad (sector_in e i) (clear (sector_in e i) s.0 s.1)) ∙ spots i low high))
    adds)

choice : (b : Bool) (e : Extent) (place : Place) (i : ℕ) → place_spot (Some (cond b Nothing place)) e i ≡ cond b (Some (2, i)) (place_spot (Some place) e i)
choice true e place i = refl
choice false e place i = refl

-- a run of one sector, readable or not
pub Adds-sector : (e : Extent) (bad : List ℕ) (place kept : Place) (s : ℕ) (run : Entry) (old new : List Entry) → e.at % 512 ≡ 0
    → kept ≡ cond (list_any (λ t. t == s) bad) Nothing place
    → run.at ≡ e.at + 512 * s → run.at + run.len ≡ e.at + 512 * (s + 1)
    → ((i : ℕ) → run.at ≤ i → i < run.at + run.len → place_spot (Some kept) e i ≡ Some (spot_in i run))
    → Adds run.at (run.at + run.len) (λ i. Some (spot_in i run)) old new
    → Adds (e.at + 512 * s) (e.at + 512 * (s + 1)) (sector_spot e bad (Some place)) old new
Adds-sector e bad place kept s run old new whole is at end spots adds =
    Adds-bounds _ _ _ _ (sector_spot e bad (Some place)) old new at end
    (Adds-same run.at (run.at + run.len) (λ i. Some (spot_in i run)) (sector_spot e bad (Some place)) old new
    (λ i low high.
    let w = sector_within e s (s + 1) i whole (omega (arith, low, at)) (omega (arith, high, end)) in
    let here : s ≡ sector_in e i = omega (arith, w.0, w.1) in
    sym (spots i low high)
    ∙ ap (λ p. place_spot (Some p) e i) is
    ∙ choice (list_any (λ t. t == s) bad) e place i
    ∙ ap (λ n. cond (list_any (λ t. t == n) bad) (Some (2, i)) (place_spot (Some place) e i)) here)
    adds)

-- a chunk of an extent
pub Adds-chunk : (e : Extent) (bad : List ℕ) (places : List Place) (d : Place) (j first last from to : ℕ) (old new : List Entry) → j < length places
    → first ≡ 64 * j → last ≤ 64 * j + 64 → e.at + 512 * first ≡ from → e.at + 512 * last ≡ to
    → Adds (e.at + 512 * first) (e.at + 512 * last) (sector_spot e bad (Some (get_or places j d))) old new
    → Adds from to (extent_spot e bad places) old new
Adds-chunk e bad places d j first last from to old new below is short a b adds =
    Adds-bounds _ _ _ _ (extent_spot e bad places) old new a b
    (Adds-same (e.at + 512 * first) (e.at + 512 * last) (sector_spot e bad (Some (get_or places j d))) (extent_spot e bad places) old new
    (λ i low high.
    let chunk : (i - e.at) / 32768 ≡ j = omega (arith, low, high, is, short) in
    let there : slice_get places j ≡ Some (get_or places j d) = slice_get-get_or places j d below in
    ap (λ p. sector_spot e bad p i) (sym there) ∙ ap (λ k. sector_spot e bad (slice_get places k) i) (sym chunk))
    adds)
