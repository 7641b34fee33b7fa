-- The kind of a place after a history.
use Rattle.std.proofs.Common.{◌≡◌, ◌≢◌, ◌==◌, ℕ, ◌+◌, ◌-◌, ◌/◌, ◌%◌, ◌<◌, ◌≤◌, ◌⊎◌, inl, inr, zero, suc, Bool, true, false, cond, Option, None, Some, IfSome, IsSomeAnd, IsTrue, List, [], ◌∷◌, ◌++◌, length, get_or, replicate, refl, sym, ap, subst, ◌∙◌, arith, All, slice_get}
use Rattle.std.specs.List.{list_any}
use Rattle.std.proofs.lemmas.Bool.{false≢true}
use Rattle.std.proofs.lemmas.Bool.Decides.{leb_tells, nat_tests}
use Rattle.std.proofs.lemmas.List.{same_lists, length-append, length-map, length-replicate, get_or_append_left, get_or-append_right, get_or-map, get_or-replicate}
use Rattle.std.proofs.lemmas.List.Folds.{list_any_at}
use Rattle.std.proofs.lemmas.List.FromFn.{get_or-map-range_with_len, length-map-range_with_len}
use Rattle.std.proofs.lemmas.Option.{slice_get_within, same_Some, get_or_from_slice_get, slice_get-get_or}
use Rattle.aff_model.specs.declared.cell.Kind.{Kind}
use Rattle.aff_model.specs.declared.cell.Kind.TheVariants.{Known, Unreadable, Unknown}
use Rattle.aff_model.specs.declared.extent.Extent.{Extent}
use Rattle.aff_model.specs.Cells.{is_bad_at}
use Rattle.aff_model.specs.History.{Published}
use Rattle.aff_model.specs.Index.{no_extent}
use Rattle.aff_model.specs.Plan.{AreApart, has_place}
use Rattle.aff_model.proofs.Sectors.{IsSectored, IsSectorPlan}
use Rattle.aff_model.proofs.Find.{has_place-inside, has_place-outside}
use Rattle.aff_core.specs.Kept.{Tracks}
use Rattle.aff_model.specs.Kinds.{kind_by, kind_at, kinds_of}
use Rattle.aff_core.specs.Steps.{extents_out}

-- the extent of a number, if there is one, does not hold the place
abbrev pub Misses : List Extent → ℕ → ℕ → Type 0
Misses es i n = IfSome (slice_get es n) (λ e. has_place i e ≡ false)

kind_by-miss : (o : Option Extent) (p : Published) (i : ℕ) (others : Kind) → IfSome o (λ e. has_place i e ≡ false) → kind_by o p i others ≡ others
kind_by-miss None p i others h = refl
kind_by-miss (Some e) p i others h = ap (λ b. cond b (cond (is_bad_at e p i) Unreadable Known) others) h

kind_by-hit : (o : Option Extent) (p : Published) (i : ℕ) (others : Kind) (e : Extent) → o ≡ Some e → has_place i e ≡ true → kind_by o p i others ≡ cond (is_bad_at e p i) Unreadable Known
kind_by-hit o p i others e is h = ap (λ x. kind_by x p i others) is ∙ ap (λ b. cond b (cond (is_bad_at e p i) Unreadable Known) others) h

-- no publication's extent holds the place
pub kind_at-miss : (es : List Extent) (history : List Published) (i : ℕ) → ((q : ℕ) → q < length history → Misses es i (get_or (extents_out history) q 0)) → kind_at es history i ≡ Unknown
kind_at-miss es [] i h = refl
kind_at-miss es (p ∷ history) i h =
    kind_by-miss (slice_get es p.extent) p i (kind_at es history i) (h 0 (omega arith)) ∙ kind_at-miss es history i (λ q b. h (suc q) (omega arith))

-- the first publication whose extent holds the place
pub kind_at-hit : (es : List Extent) (history : List Published) (i q : ℕ) (p : Published) (e : Extent) → ((k : ℕ) → k < q → Misses es i (get_or (extents_out history) k 0)) → slice_get history q ≡ Some p → slice_get es p.extent ≡ Some e → has_place i e ≡ true → kind_at es history i ≡ cond (is_bad_at e p i) Unreadable Known
kind_at-hit es [] i q p e before there of has = cc
kind_at-hit es (r ∷ history) i zero p e before there of has =
    let same : r ≡ p = same_Some r p there in
    let P : Published → Type 0 = λ x. slice_get es x.extent ≡ Some e in
    kind_by-hit (slice_get es r.extent) r i (kind_at es history i) e (subst P (sym same) of) has ∙ ap (λ x. cond (is_bad_at e x i) Unreadable Known) same
kind_at-hit es (r ∷ history) i (suc q) p e before there of has =
    kind_by-miss (slice_get es r.extent) r i (kind_at es history i) (before 0 (omega arith)) ∙ kind_at-hit es history i q p e (λ k b. before (suc k) (omega arith)) there of has

begun_by : (i : ℕ) (e : Extent) → has_place i e ≡ true → (e.at ≤ i) × (i < e.at + e.len)
begun_by i e h = (grind (arith, nat_tests), grind (arith, nat_tests))

apart_either : (size : ℕ) (es : List Extent) → IsSectorPlan size es → (n m : ℕ) (e f : Extent) → slice_get es n ≡ Some e → slice_get es m ≡ Some f → m ≢ n → AreApart e f ⊎ AreApart f e
apart_either size es plan n m e f is of ne =
    let nb = slice_get_within es n e is in
    let mb = slice_get_within es m f of in
    let en : get_or es n no_extent ≡ e = get_or_from_slice_get es n e no_extent is in
    let fm : get_or es m no_extent ≡ f = get_or_from_slice_get es m f no_extent of in
    let P : Extent → Extent → Type 0 = AreApart in
    elim (leb_tells n m) [
      | inl x ↦ inl (subst (λ y. P e y) fm (subst (λ y. P y (get_or es m no_extent)) en (plan.apart n m no_extent (omega arith) mb)))
      | inr y ↦ inr (subst (λ z. P f z) en (subst (λ z. P z (get_or es n no_extent)) fm (plan.apart m n no_extent (omega arith) nb)))
    ]

outside_other : (i : ℕ) (e f : Extent) → AreApart e f ⊎ AreApart f e → has_place i e ≡ true → has_place i f ≡ false
outside_other i e f apart has =
    let b = begun_by i e has in
    has_place-outside f i (elim apart [
      | inl x ↦ elim x [ inl l ↦ inl (omega (arith, b.0, b.1)) | inr r ↦ inr (omega (arith, b.0, b.1)) ]
      | inr y ↦ elim y [ inl l ↦ inr (omega (arith, b.0, b.1)) | inr r ↦ inl (omega (arith, b.0, b.1)) ]
    ])

miss_by : (i : ℕ) (e : Extent) (o : Option Extent) → ((f : Extent) → o ≡ Some f → has_place i f ≡ false) → IfSome o (λ f. has_place i f ≡ false)
miss_by i e None h = tt
miss_by i e (Some f) h = h f refl

-- another number than that of the extent that holds the place
pub misses-other : (size : ℕ) (es : List Extent) → IsSectorPlan size es → (i n m : ℕ) (e : Extent) → slice_get es n ≡ Some e → has_place i e ≡ true → m ≢ n → Misses es i m
misses-other size es plan i n m e is has ne =
    miss_by i e (slice_get es m) (λ f of. outside_other i e f (apart_either size es plan n m e f is of ne) has)

pub not_true : (b : Bool) → ¬ (b ≡ true) → b ≡ false
not_true true h = absurd (h refl)
not_true false h = refl

-- no extent holds the place
pub misses-all : (es : List Extent) (i : ℕ) → list_any (has_place i) es ≡ false → (n : ℕ) → Misses es i n
misses-all es i none n =
    miss_by i no_extent (slice_get es n) (λ f of.
    not_true (has_place i f) (λ has.
    let b = slice_get_within es n f of in
    let at : get_or es n no_extent ≡ f = get_or_from_slice_get es n f no_extent of in
    let any : list_any (has_place i) es ≡ true = list_any_at (has_place i) es n no_extent b (ap (has_place i) at ∙ has) in
    false≢true (sym none ∙ any)))

pub kind-outside : (es : List Extent) (history : List Published) (i : ℕ) → list_any (has_place i) es ≡ false → kind_at es history i ≡ Unknown
kind-outside es history i none = kind_at-miss es history i (λ q b. misses-all es i none (get_or (extents_out history) q 0))

-- the extent of a number holds the place
pub record IsHolder (es : List Extent) (n i : ℕ) : Type 0 where
  pub inside : n < length es
  pub there : slice_get es n ≡ Some (get_or es n no_extent)
  pub holds : has_place i (get_or es n no_extent) ≡ true

holder_by : (es : List Extent) (n i : ℕ) (o : Option Extent) → slice_get es n ≡ o → IsSomeAnd o (λ e. IsTrue (has_place i e)) → IsHolder es n i
holder_by es n i None is h = absurd h
holder_by es n i (Some e) is h =
    let at : get_or es n no_extent ≡ e = get_or_from_slice_get es n e no_extent is in
    record { inside = slice_get_within es n e is; there = is ∙ ap Some (sym at); holds = ap (has_place i) at ∙ h }

pub holder : (es : List Extent) (n i : ℕ) → IsSomeAnd (slice_get es n) (λ e. IsTrue (has_place i e)) → IsHolder es n i
holder es n i h = holder_by es n i (slice_get es n) refl h

-- it is not published
pub kind-unpublished : (size : ℕ) (es : List Extent) (history : List Published) (places : List (Option ℕ)) (n i : ℕ) → IsSectorPlan size es → Tracks (extents_out history) places → IsHolder es n i → slice_get places n ≡ Some None → kind_at es history i ≡ Unknown
kind-unpublished size es history places n i plan t h free =
    kind_at-miss es history i (λ q b.
    misses-other size es plan i n (get_or (extents_out history) q 0) (get_or es n no_extent) h.there h.holds (λ same.
    let l = length-map history (λ (p : Published). p.extent) in
    let placed : slice_get places n ≡ Some (Some q) = ap (slice_get places) (sym same) ∙ t.each q (omega arith) in
    let wrong : ◌≡◌ {A = Option (Option ℕ)} (Some None) (Some (Some q)) = sym free ∙ placed in
    cc))

-- it is published
pub kind-published : (size : ℕ) (es : List Extent) (history : List Published) (places : List (Option ℕ)) (n i q : ℕ) (p : Published) → IsSectorPlan size es → Tracks (extents_out history) places → IsHolder es n i → slice_get places n ≡ Some (Some q) → q < length history → p ≡ get_or history q p → kind_at es history i ≡ cond (is_bad_at (get_or es n no_extent) p i) Unreadable Known
kind-published size es history places n i q p plan t h placed inside read =
    let f = t.found n q placed in
    let of : p.extent ≡ n = ap (λ (x : Published). x.extent) read ∙ sym (get_or-map (λ (x : Published). x.extent) history q p 0 inside) ∙ f.1 in
    kind_at-hit es history i q p (get_or es n no_extent)
    (λ k b. misses-other size es plan i n (get_or (extents_out history) k 0) (get_or es n no_extent) h.there h.holds (λ same.
    let had : slice_get places n ≡ Some (Some k) = ap (slice_get places) (sym same) ∙ t.each k (omega (arith, f.0)) in
    let both : ◌≡◌ {A = Option (Option ℕ)} (Some (Some k)) (Some (Some q)) = sym had ∙ placed in
    let kq : k ≡ q = same_Some k q (same_Some (Some k) (Some q) both) in
    omega arith))
    (slice_get-get_or history q p inside ∙ ap Some (sym read))
    (ap (slice_get es) of ∙ h.there)
    h.holds

-- the kinds of one sector are one
same_bool : (a b : Bool) → (a ≡ true → b ≡ true) → (b ≡ true → a ≡ true) → a ≡ b
same_bool true b h q = sym (h refl)
same_bool false true h q = q refl
same_bool false false h q = refl

inside_sector : (a l i j : ℕ) → a % 512 ≡ 0 → l % 512 ≡ 0 → i / 512 ≡ j / 512 → a ≤ i → i < a + l → (a ≤ j) × (j < a + l)
inside_sector a l i j am lm same from to = (omega arith, omega arith)

has_place-along : (e : Extent) (i j : ℕ) → e.at % 512 ≡ 0 → e.len % 512 ≡ 0 → i / 512 ≡ j / 512 → has_place i e ≡ true → has_place j e ≡ true
has_place-along e i j a l same h =
    let b = begun_by i e h in
    let c = inside_sector e.at e.len i j a l same b.0 b.1 in
    has_place-inside e j c.0 c.1

has_place-sector : (e : Extent) (i j : ℕ) → e.at % 512 ≡ 0 → e.len % 512 ≡ 0 → i / 512 ≡ j / 512 → has_place i e ≡ has_place j e
has_place-sector e i j a l same = same_bool (has_place i e) (has_place j e) (has_place-along e i j a l same) (has_place-along e j i a l (sym same))

each_by : (size : ℕ) (es : List Extent) (n : ℕ) (o : Option Extent) → All (IsSectored size) es → slice_get es n ≡ o → IfSome o (IsSectored size)
each_by size es n None each is = tt
each_by size es n (Some e) each is =
    let P : Extent → Type 0 = IsSectored size in
    subst P (get_or_from_slice_get es n e no_extent is) (each n no_extent (slice_get_within es n e is))

each_of : (size : ℕ) (es : List Extent) (n : ℕ) → All (IsSectored size) es → IfSome (slice_get es n) (IsSectored size)
each_of size es n each = each_by size es n (slice_get es n) each refl

kind_by-sector : (size : ℕ) (o : Option Extent) (p : Published) (i j : ℕ) (m n : Kind) → IfSome o (IsSectored size) → i / 512 ≡ j / 512 → m ≡ n → kind_by o p i m ≡ kind_by o p j n
kind_by-sector size None p i j m n h same others = others
kind_by-sector size (Some e) p i j m n h same others =
    let holds : has_place i e ≡ has_place j e = has_place-sector e i j h.at_whole h.len_whole same in
    let bad : is_bad_at e p i ≡ is_bad_at e p j = ap (λ s. list_any (λ k. k == (s - e.at / 512)) p.bad) same in
    ap (λ b. cond b (cond (is_bad_at e p i) Unreadable Known) m) holds ∙ ap (λ b. cond (has_place j e) (cond b Unreadable Known) m) bad ∙ ap (λ k. cond (has_place j e) (cond (is_bad_at e p j) Unreadable Known) k) others

pub kind_at-sector : (size : ℕ) (es : List Extent) (history : List Published) (i j : ℕ) → All (IsSectored size) es → i / 512 ≡ j / 512 → kind_at es history i ≡ kind_at es history j
kind_at-sector size es [] i j each same = refl
kind_at-sector size es (p ∷ history) i j each same =
    kind_by-sector size (slice_get es p.extent) p i j (kind_at es history i) (kind_at es history j) (each_of size es p.extent each) same (kind_at-sector size es history i j each same)

part_at : (size : ℕ) (es : List Extent) (history : List Published) (at done part k : ℕ) (d : Kind) → All (IsSectored size) es → part ≤ 512 - (at + done) % 512 → k < done + part → get_or (kinds_of es history at done ++ replicate part (kind_at es history (at + done))) k d ≡ kind_at es history (at + k)
part_at size es history at done part k d each short b =
    let f : ℕ → Kind = kind_at es history in
    let front = kinds_of es history at done in
    let n : length front ≡ done = length-map-range_with_len f at done in
    elim (leb_tells done k) [
      | inl x ↦ (
          let within : k - done < part = omega (arith, x.1) in
          let sector : (at + done) / 512 ≡ (at + k) / 512 = omega (arith, x.1) in
          get_or-append_right front (replicate part (f (at + done))) done k d n x.1 ∙ get_or-replicate part (k - done) (f (at + done)) d within ∙ kind_at-sector size es history (at + done) (at + k) each sector)
      | inr y ↦ (
          let before : k < length front = omega (arith, y.1) in
          get_or_append_left front (replicate part (f (at + done))) d k before ∙ get_or-map-range_with_len f at done k (at + k) d y.1 refl)
    ]

-- one part more of a range, which lies in one sector
pub kinds_of-more : (size : ℕ) (es : List Extent) (history : List Published) (at done part : ℕ) → All (IsSectored size) es → part ≤ 512 - (at + done) % 512 → kinds_of es history at (done + part) ≡ kinds_of es history at done ++ replicate part (kind_at es history (at + done))
kinds_of-more size es history at done part each short =
    let f : ℕ → Kind = kind_at es history in
    let front = kinds_of es history at done in
    let n : length front ≡ done = length-map-range_with_len f at done in
    let m = length-map-range_with_len f at (done + part) in
    let r = length-replicate part (f (at + done)) in
    let a = length-append front (replicate part (f (at + done))) in
    same_lists _ _ (omega arith) (λ k d b.
    let inside : k < done + part = omega arith in
    let left = get_or-map-range_with_len f at (done + part) k (at + k) d inside refl in
    left ∙ sym (part_at size es history at done part k d each short inside))
