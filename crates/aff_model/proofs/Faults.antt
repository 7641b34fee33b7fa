-- A list of extents is a plan, or it has one first fault.
use Rattle.std.proofs.Common.{◌≡◌, ◌≢◌, ℕ, ◌+◌, ◌^◌, ◌<◌, ◌≤◌, ◌⊎◌, inl, inr, List, length, get_or, take, refl, sym, ap, subst, ◌∙◌, arith, All, AllPairs}
use Rattle.std.proofs.lemmas.Bool.Decides.{leb_tells}
use Rattle.std.proofs.lemmas.List.{get_or_default, get_or-take, length-take-le}
use Rattle.aff_model.specs.declared.extent.Extent.{Extent}
use Rattle.aff_model.specs.declared.plan.PlanFault.{PlanFault}
use Rattle.aff_model.specs.declared.plan.PlanFault.TheVariants.{Sector, TooLong, TooMany, PastEnd, Priority, Total, Overlap, Memory}
use Rattle.aff_model.specs.Faults.{IsWhole, KeepsRules, Breaks, IsOwnFault, IsFirstOverlap, IsOverlapFault, IsFirstFault}
use Rattle.aff_model.specs.declared.limits.TheConstants.{MAX_EXTENTS, MAX_TOTAL}
use Rattle.aff_model.proofs.Totals.{bytes_in-take}
use Rattle.aff_model.specs.Index.{no_extent, extent_at, HasBytes}
use Rattle.aff_model.specs.Plan.{IsExtent, IsPlan, AreApart, bytes_in}

whole_if_kept : (size block : ℕ) (es : List Extent) (k : ℕ) → KeepsRules size block es k → IsWhole block (extent_at es k)
whole_if_kept size block es k f = record { at_whole = f.extent.at_whole; len_whole = f.extent.len_whole; some = f.extent.some }

-- an extent that breaks a rule does not keep all
unfit : (size block : ℕ) (es : List Extent) (k : ℕ) (f : PlanFault) → Breaks size block es k f → ¬ (KeepsRules size block es k)
unfit size block es k (Sector i) h fits = h.1 (whole_if_kept size block es k fits)
unfit size block es k (TooLong i) h fits = omega (arith, fits.extent.short, h.2)
unfit size block es k TooMany h fits = omega (arith, fits.few, h.1)
unfit size block es k (PastEnd i) h fits = omega (arith, fits.extent.inside, h.3)
unfit size block es k (Priority i) h fits = omega (arith, fits.extent.priority, h.2)
unfit size block es k (Total i) h fits = omega (arith, fits.total, h.3)
unfit size block es k (Overlap j i) h fits = h
unfit size block es k Memory h fits = h

-- an extent breaks one rule first
same_breaks : (size block : ℕ) (es : List Extent) (k : ℕ) (f g : PlanFault) → Breaks size block es k f → Breaks size block es k g → f ≡ g
same_breaks size block es k (Sector i) (Sector j) h q = ap Sector (h.0 ∙ sym q.0)
same_breaks size block es k (Sector i) (TooLong j) h q = absurd (h.1 q.1)
same_breaks size block es k (Sector i) TooMany h q = absurd (h.1 q.0.0)
same_breaks size block es k (Sector i) (PastEnd j) h q = absurd (h.1 q.1.0)
same_breaks size block es k (Sector i) (Priority j) h q = absurd (h.1 q.1.0.0)
same_breaks size block es k (Sector i) (Total j) h q = absurd (h.1 q.1.0.0)
same_breaks size block es k (Sector i) (Overlap j1 j2) h q = absurd q
same_breaks size block es k (Sector i) Memory h q = absurd q
same_breaks size block es k (TooLong i) (Sector j) h q = absurd (q.1 h.1)
same_breaks size block es k (TooLong i) (TooLong j) h q = ap TooLong (h.0 ∙ sym q.0)
same_breaks size block es k (TooLong i) TooMany h q = absurd (omega (arith, h.2, q.0.1))
same_breaks size block es k (TooLong i) (PastEnd j) h q = absurd (omega (arith, h.2, q.1.1))
same_breaks size block es k (TooLong i) (Priority j) h q = absurd (omega (arith, h.2, q.1.0.1))
same_breaks size block es k (TooLong i) (Total j) h q = absurd (omega (arith, h.2, q.1.0.1))
same_breaks size block es k (TooLong i) (Overlap j1 j2) h q = absurd q
same_breaks size block es k (TooLong i) Memory h q = absurd q
same_breaks size block es k TooMany (Sector j) h q = absurd (q.1 h.0.0)
same_breaks size block es k TooMany (TooLong j) h q = absurd (omega (arith, q.2, h.0.1))
same_breaks size block es k TooMany TooMany h q = refl
same_breaks size block es k TooMany (PastEnd j) h q = absurd (omega (arith, h.1, q.2))
same_breaks size block es k TooMany (Priority j) h q = absurd (omega (arith, h.1, q.1.1))
same_breaks size block es k TooMany (Total j) h q = absurd (omega (arith, h.1, q.1.1))
same_breaks size block es k TooMany (Overlap j1 j2) h q = absurd q
same_breaks size block es k TooMany Memory h q = absurd q
same_breaks size block es k (PastEnd i) (Sector j) h q = absurd (q.1 h.1.0)
same_breaks size block es k (PastEnd i) (TooLong j) h q = absurd (omega (arith, q.2, h.1.1))
same_breaks size block es k (PastEnd i) TooMany h q = absurd (omega (arith, q.1, h.2))
same_breaks size block es k (PastEnd i) (PastEnd j) h q = ap PastEnd (h.0 ∙ sym q.0)
same_breaks size block es k (PastEnd i) (Priority j) h q = absurd (omega (arith, h.3, q.1.2))
same_breaks size block es k (PastEnd i) (Total j) h q = absurd (omega (arith, h.3, q.1.2))
same_breaks size block es k (PastEnd i) (Overlap j1 j2) h q = absurd q
same_breaks size block es k (PastEnd i) Memory h q = absurd q
same_breaks size block es k (Priority i) (Sector j) h q = absurd (q.1 h.1.0.0)
same_breaks size block es k (Priority i) (TooLong j) h q = absurd (omega (arith, q.2, h.1.0.1))
same_breaks size block es k (Priority i) TooMany h q = absurd (omega (arith, q.1, h.1.1))
same_breaks size block es k (Priority i) (PastEnd j) h q = absurd (omega (arith, q.3, h.1.2))
same_breaks size block es k (Priority i) (Priority j) h q = ap Priority (h.0 ∙ sym q.0)
same_breaks size block es k (Priority i) (Total j) h q = absurd (omega (arith, h.2, q.2))
same_breaks size block es k (Priority i) (Overlap j1 j2) h q = absurd q
same_breaks size block es k (Priority i) Memory h q = absurd q
same_breaks size block es k (Total i) (Sector j) h q = absurd (q.1 h.1.0.0)
same_breaks size block es k (Total i) (TooLong j) h q = absurd (omega (arith, q.2, h.1.0.1))
same_breaks size block es k (Total i) TooMany h q = absurd (omega (arith, q.1, h.1.1))
same_breaks size block es k (Total i) (PastEnd j) h q = absurd (omega (arith, q.3, h.1.2))
same_breaks size block es k (Total i) (Priority j) h q = absurd (omega (arith, q.2, h.2))
same_breaks size block es k (Total i) (Total j) h q = ap Total (h.0 ∙ sym q.0)
same_breaks size block es k (Total i) (Overlap j1 j2) h q = absurd q
same_breaks size block es k (Total i) Memory h q = absurd q
same_breaks size block es k (Overlap i1 i2) g h q = absurd h
same_breaks size block es k Memory g h q = absurd h

not_sooner : (size block : ℕ) (es : List Extent) (f g : PlanFault) → (a : IsOwnFault size block es f) → (b : IsOwnFault size block es g) → a.number ≤ b.number
not_sooner size block es f g a b = elim (leb_tells a.number b.number) [
  | inl x ↦ x.1
  | inr y ↦ absurd (unfit size block es b.number g b.breaks (a.before b.number y.1))
]

same_own : (size block : ℕ) (es : List Extent) (f g : PlanFault) → IsOwnFault size block es f → IsOwnFault size block es g → f ≡ g
same_own size block es f g a b =
    let u : a.number ≤ b.number = not_sooner size block es f g a b in
    let v : b.number ≤ a.number = not_sooner size block es g f b a in
    let one : b.number ≡ a.number = omega arith in
    let P : ℕ → Type 0 = λ k. Breaks size block es k g in
    same_breaks size block es a.number f g a.breaks (subst P one b.breaks)

fits_all : (size block : ℕ) (es : List Extent) → All (IsExtent size block) es → length es ≤ MAX_EXTENTS → bytes_in es ≤ MAX_TOTAL → (k : ℕ) → k < length es → KeepsRules size block es k
fits_all size block es each few total k b = record { extent = each k no_extent b; few = omega arith; total = omega (arith, bytes_in-take es (k + 1)) }

own_alone : (size block : ℕ) (es : List Extent) (f : PlanFault) → All (IsExtent size block) es → length es ≤ MAX_EXTENTS → bytes_in es ≤ MAX_TOTAL → ¬ (IsOwnFault size block es f)
own_alone size block es f each few total a = unfit size block es a.number f a.breaks (fits_all size block es each few total a.number a.there)

-- an earlier extent of a prefix that is apart
apart_in : (es : List Extent) (j u v : ℕ) → j ≤ length es → AllPairs AreApart (take j es) → u < v → v < j → AreApart (extent_at es u) (extent_at es v)
apart_in es j u v inside apart uv vj =
    let P : Extent → Extent → Type 0 = AreApart in
    let before : u < j = omega arith in
    let n : length (take j es) ≡ j = length-take-le j es inside in
    let w : P (get_or (take j es) u no_extent) (get_or (take j es) v no_extent) = apart u v no_extent uv (omega arith) in
    let x : P (extent_at es u) (get_or (take j es) v no_extent) = subst (λ e. P e (get_or (take j es) v no_extent)) (get_or-take j es u no_extent before) w in
    subst (λ e. P (extent_at es u) e) (get_or-take j es v no_extent vj) x

-- an overlap's later extent is no later than another's, nor its earlier one
overlap_soonest : (es : List Extent) (j i v u : ℕ) → IsFirstOverlap es j i → IsFirstOverlap es v u → j ≤ v
overlap_soonest es j i v u a b = elim (leb_tells j v) [
  | inl x ↦ x.1
  | inr y ↦ absurd (b.shared (apart_in es j u v (omega (arith, a.there)) a.before b.earlier y.1))
]

earlier_soonest : (es : List Extent) (j i u : ℕ) → IsFirstOverlap es j i → IsFirstOverlap es j u → i ≤ u
earlier_soonest es j i u a b = elim (leb_tells i u) [
  | inl x ↦ x.1
  | inr y ↦ absurd (b.shared (a.first u y.1))
]

le_antisym : (a b : ℕ) → a ≤ b → b ≤ a → a ≡ b
le_antisym a b h q = omega arith

same_overlap : (es : List Extent) (j i v u : ℕ) → IsFirstOverlap es j i → IsFirstOverlap es v u → Overlap j i ≡ Overlap v u
same_overlap es j i v u a b =
    let later : j ≡ v = le_antisym j v (overlap_soonest es j i v u a b) (overlap_soonest es v u j i b a) in
    let P : ℕ → Type 0 = λ k. IsFirstOverlap es k u in
    let b_at : IsFirstOverlap es j u = subst P (sym later) b in
    let earlier : i ≡ u = le_antisym i u (earlier_soonest es j i u a b_at) (earlier_soonest es j u i b_at a) in
    ap (λ k. Overlap j k) earlier ∙ ap (λ k. Overlap k u) later

-- a first fault is of one extent by itself, or an overlap
record IsOverlapOf (size block : ℕ) (es : List Extent) (f : PlanFault) : Type 0 where
  j : ℕ
  i : ℕ
  is : f ≡ Overlap j i
  fault : IsOverlapFault size block es j i

sides : (size block : ℕ) (es : List Extent) (f : PlanFault) → IsFirstFault size block es f → IsOwnFault size block es f ⊎ IsOverlapOf size block es f
sides size block es (Sector i) h = inl h
sides size block es (TooLong i) h = inl h
sides size block es TooMany h = inl h
sides size block es (PastEnd i) h = inl h
sides size block es (Priority i) h = inl h
sides size block es (Total i) h = inl h
sides size block es (Overlap j i) h = inr (record { j = j; i = i; is = refl; fault = h })
sides size block es Memory h = absurd h

pub own-first : (size block : ℕ) (es : List Extent) (f : PlanFault) → IsOwnFault size block es f → IsFirstFault size block es f
own-first size block es (Sector i) h = h
own-first size block es (TooLong i) h = h
own-first size block es TooMany h = h
own-first size block es (PastEnd i) h = h
own-first size block es (Priority i) h = h
own-first size block es (Total i) h = h
own-first size block es (Overlap j i) h = absurd h.breaks
own-first size block es Memory h = absurd h.breaks

-- a list has one first fault
pub same_fault : (size block : ℕ) (es : List Extent) (f g : PlanFault) → IsFirstFault size block es f → IsFirstFault size block es g → f ≡ g
same_fault size block es f g a b = elim (sides size block es f a) [
  | inl x ↦ elim (sides size block es g b) [
    | inl y ↦ same_own size block es f g x y
    | inr y ↦ absurd (own_alone size block es f y.fault.each y.fault.few y.fault.total x)
  ]
  | inr x ↦ elim (sides size block es g b) [
    | inl y ↦ absurd (own_alone size block es g x.fault.each x.fault.few x.fault.total y)
    | inr y ↦ x.is ∙ same_overlap es x.j x.i y.j y.i x.fault.overlap y.fault.overlap ∙ sym y.is
  ]
]

-- a plan has none
pub no_fault : (size block : ℕ) (es : List Extent) (f : PlanFault) → IsPlan size block es → ¬ (IsFirstFault size block es f)
no_fault size block es f plan a = elim (sides size block es f a) [
  | inl x ↦ own_alone size block es f plan.each plan.few plan.total x
  | inr x ↦ x.fault.overlap.shared (plan.apart x.i x.j no_extent x.fault.overlap.earlier x.fault.overlap.there)
]

pub each_from_fits : (size block : ℕ) (es : List Extent) → ((k : ℕ) → k < length es → KeepsRules size block es k) → All (IsExtent size block) es
each_from_fits size block es fit k d b =
    let P : Extent → Type 0 = IsExtent size block in
    subst P (sym (get_or_default es k d no_extent b)) (fit k b).extent

pub has_bytes : (size block : ℕ) (es : List Extent) → size < 2 ^ 64 → All (IsExtent size block) es → All HasBytes es
has_bytes size block es small each k d b = let e = each k d b in (e.some, omega (arith, e.inside))

-- what a refusal says of a plan, and of a list with a fault
pub taken : (size block : ℕ) (es : List Extent) (f : PlanFault) → (f ≢ Memory → IsFirstFault size block es f) → IsPlan size block es → f ≡ Memory
taken size block es (Sector i) h plan = absurd (no_fault size block es (Sector i) plan (h (λ e. cc)))
taken size block es (TooLong i) h plan = absurd (no_fault size block es (TooLong i) plan (h (λ e. cc)))
taken size block es TooMany h plan = absurd (no_fault size block es TooMany plan (h (λ e. cc)))
taken size block es (PastEnd i) h plan = absurd (no_fault size block es (PastEnd i) plan (h (λ e. cc)))
taken size block es (Priority i) h plan = absurd (no_fault size block es (Priority i) plan (h (λ e. cc)))
taken size block es (Total i) h plan = absurd (no_fault size block es (Total i) plan (h (λ e. cc)))
taken size block es (Overlap j i) h plan = absurd (no_fault size block es (Overlap j i) plan (h (λ e. cc)))
taken size block es Memory h plan = refl

pub told : (size block : ℕ) (es : List Extent) (f g : PlanFault) → (f ≢ Memory → IsFirstFault size block es f) → IsFirstFault size block es g → (f ≡ g) ⊎ (f ≡ Memory)
told size block es (Sector i) g h fault = inl (same_fault size block es (Sector i) g (h (λ e. cc)) fault)
told size block es (TooLong i) g h fault = inl (same_fault size block es (TooLong i) g (h (λ e. cc)) fault)
told size block es TooMany g h fault = inl (same_fault size block es TooMany g (h (λ e. cc)) fault)
told size block es (PastEnd i) g h fault = inl (same_fault size block es (PastEnd i) g (h (λ e. cc)) fault)
told size block es (Priority i) g h fault = inl (same_fault size block es (Priority i) g (h (λ e. cc)) fault)
told size block es (Total i) g h fault = inl (same_fault size block es (Total i) g (h (λ e. cc)) fault)
told size block es (Overlap j i) g h fault = inl (same_fault size block es (Overlap j i) g (h (λ e. cc)) fault)
told size block es Memory g h fault = inr refl
