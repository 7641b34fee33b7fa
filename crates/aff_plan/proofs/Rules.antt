-- The rules of a plan, over extents and over what is kept of them.
use Rattle.std.proofs.Common.{◌≡◌, ◌≢◌, ℕ, suc, ◌+◌, ◌%◌, ◌<◌, ◌≤◌, List, [], ◌∷◌, ◌++◌, length, get_or, take, map, refl, sym, ap, subst, ◌∙◌, arith, All, AllPairs, min, length-append, length-take}
use Rattle.std.proofs.Math.ListN.{get_or-map, get_or-append}
use Rattle.std.proofs.Math.Seq.{get_or-append_seam, take-append-add}
use Rattle.std.proofs.lemmas.List.{get_or_default, length-map, take-map, take-append-le, get_or-take}
use Rattle.std.proofs.lemmas.List.Sums.{sum_by-cons}
use Rattle.aff_model.specs.declared.extent.Extent.{Extent}
use Rattle.aff_model.specs.declared.limits.TheConstants.{MAX_EXTENT, MAX_EXTENTS, MAX_TOTAL, MAX_PRIORITY}
use Rattle.aff_model.specs.declared.plan.PlanFault.{PlanFault}
use Rattle.aff_model.specs.declared.plan.PlanFault.TheVariants.{Sector, TooLong, TooMany, PastEnd, Priority, Total, Overlap, Memory}
use Rattle.aff_model.specs.Faults.{IsWhole, IsShort, EndsInside, KeepsRules, Breaks, IsFirstOverlap, IsOverlapFault}
use Rattle.aff_model.specs.Index.{no_extent, extent_at}
use Rattle.aff_model.specs.Plan.{IsExtent, AreApart, bytes_in}
use Rattle.aff_model.proofs.Totals.{bytes_in-take}
use Rattle.aff_plan.specs.Reading.{kept_of}

-- an extent that keeps all rules breaks none
pub unbroken : (size block : ℕ) (es : List Extent) (k : ℕ) (f : PlanFault) → Breaks size block es k f → ¬ (KeepsRules size block es k)
unbroken size block es k (Sector i) h kept = h.1 (record { at_whole = kept.extent.at_whole; len_whole = kept.extent.len_whole; some = kept.extent.some })
unbroken size block es k (TooLong i) h kept = omega (arith, kept.extent.short, h.2)
unbroken size block es k TooMany h kept = omega (arith, kept.few, h.1)
unbroken size block es k (PastEnd i) h kept = omega (arith, kept.extent.inside, h.3)
unbroken size block es k (Priority i) h kept = omega (arith, kept.extent.priority, h.2)
unbroken size block es k (Total i) h kept = omega (arith, kept.total, h.3)
unbroken size block es k (Overlap j i) h kept = h
unbroken size block es k Memory h kept = h

-- where each extent is sound, there are not too many and they have not too many bytes, each keeps the rules
pub keep_all : (size block : ℕ) (es : List Extent) → All (IsExtent size block) es → length es ≤ MAX_EXTENTS → bytes_in es ≤ MAX_TOTAL → (k : ℕ) → k < length es → KeepsRules size block es k
keep_all size block es each few total k below = record { extent = each k no_extent below; few = omega arith; total = omega (arith, bytes_in-take es (k + 1)) }

-- rules speak of an extent and of the bytes up to it
pub keeps_same : (size block : ℕ) (es fs : List Extent) (k : ℕ) → extent_at es k ≡ extent_at fs k → bytes_in (take (k + 1) es) ≡ bytes_in (take (k + 1) fs) → KeepsRules size block es k → KeepsRules size block fs k
keeps_same size block es fs k same bytes kept = record {
  extent = subst (IsExtent size block) same kept.extent;
  few = kept.few;
  total = omega (arith, kept.total, bytes);
}

-- a kept extent is whole where the extent is
whole_from : (block : ℕ) (e : Extent) → IsWhole block (kept_of e) → IsWhole block e
whole_from block e w = record { at_whole = w.at_whole; len_whole = w.len_whole; some = w.some }

whole_to : (block : ℕ) (e : Extent) → IsWhole block e → IsWhole block (kept_of e)
whole_to block e w = record { at_whole = w.at_whole; len_whole = w.len_whole; some = w.some }

extent_from : (size block : ℕ) (e : Extent) → IsExtent size block (kept_of e) → IsExtent size block e
extent_from size block e is = record {
  at_whole = is.at_whole;
  len_whole = is.len_whole;
  some = is.some;
  short = is.short;
  inside = is.inside;
  priority = omega (arith, is.priority);
}

-- what a kept extent keeps or breaks, the extent does
keeps_at : (size block : ℕ) (es fs : List Extent) (k : ℕ) → extent_at es k ≡ kept_of (extent_at fs k) → bytes_in (take (k + 1) es) ≡ bytes_in (take (k + 1) fs) → KeepsRules size block es k → KeepsRules size block fs k
keeps_at size block es fs k same bytes kept = record {
  extent = extent_from size block (extent_at fs k) (subst (IsExtent size block) same kept.extent);
  few = kept.few;
  total = omega (arith, kept.total, bytes);
}

short_at : (block : ℕ) (e f : Extent) → e ≡ kept_of f → IsShort block e → IsShort block f
short_at block e f same h = let kept = subst (IsShort block) same h in (whole_from block f kept.0, kept.1)

ends_at : (size block k : ℕ) (e f : Extent) → e ≡ kept_of f → EndsInside size block k e → EndsInside size block k f
ends_at size block k e f same h = let kept = subst (EndsInside size block k) same h in (short_at block (kept_of f) f refl kept.0, kept.1, kept.2)

breaks_at : (size block : ℕ) (es fs : List Extent) (k : ℕ) (f : PlanFault) → extent_at es k ≡ kept_of (extent_at fs k) → bytes_in (take (k + 1) es) ≡ bytes_in (take (k + 1) fs) → Breaks size block es k f → Breaks size block fs k f
breaks_at size block es fs k (Sector i) same bytes h = (h.0, λ whole. h.1 (subst (IsWhole block) (sym same) (whole_to block (extent_at fs k) whole)))
breaks_at size block es fs k (TooLong i) same bytes h =
    (h.0, whole_from block (extent_at fs k) (subst (IsWhole block) same h.1), subst (λ e. MAX_EXTENT < e.len) same h.2)
breaks_at size block es fs k TooMany same bytes h = (short_at block (extent_at es k) (extent_at fs k) same h.0, h.1)
breaks_at size block es fs k (PastEnd i) same bytes h =
    (h.0, short_at block (extent_at es k) (extent_at fs k) same h.1, h.2, subst (λ e. size < e.at + e.len) same h.3)
breaks_at size block es fs k (Priority i) same bytes h =
    let over : MAX_PRIORITY < min (extent_at fs k).priority 255 = subst (λ e. MAX_PRIORITY < e.priority) same h.2 in
    (h.0, ends_at size block k (extent_at es k) (extent_at fs k) same h.1, omega (arith, over))
breaks_at size block es fs k (Total i) same bytes h =
    let low : min (extent_at fs k).priority 255 ≤ MAX_PRIORITY = subst (λ e. e.priority ≤ MAX_PRIORITY) same h.2 in
    (h.0, ends_at size block k (extent_at es k) (extent_at fs k) same h.1, omega (arith, low), omega (arith, h.3, bytes))
breaks_at size block es fs k (Overlap j i) same bytes h = h
breaks_at size block es fs k Memory same bytes h = h

-- kept extents by their numbers, and their bytes
kept_at : (es : List Extent) (k : ℕ) → extent_at (map kept_of es) k ≡ kept_of (extent_at es k)
kept_at es k = get_or-map kept_of es k no_extent

kept_total : (es : List Extent) → bytes_in (map kept_of es) ≡ bytes_in es
kept_total [] = refl
kept_total (e ∷ es) = omega (arith, sum_by-cons (λ x. x.len) (kept_of e) (map kept_of es), sum_by-cons (λ x. x.len) e es, kept_total es)

kept_bytes : (es : List Extent) (k : ℕ) → bytes_in (take k (map kept_of es)) ≡ bytes_in (take k es)
kept_bytes es k = ap bytes_in (take-map kept_of k es) ∙ kept_total (take k es)

-- some first extents by their numbers, and their bytes
front_at : (front back : List Extent) (k : ℕ) → k < length front → extent_at (front ++ back) k ≡ extent_at front k
front_at front back k below = get_or-append front back no_extent k below

front_bytes : (front back : List Extent) (k : ℕ) → k < length front → bytes_in (take (k + 1) (front ++ back)) ≡ bytes_in (take (k + 1) front)
front_bytes front back k below = ap bytes_in (take-append-le (k + 1) front back (omega arith))

seam_at : (front : List Extent) (e : Extent) (back : List Extent) → extent_at (front ++ e ∷ back) (length front) ≡ e
seam_at front e back = get_or-append_seam front e back no_extent

seam_bytes : (front : List Extent) (e : Extent) (back : List Extent) → bytes_in (take (length front + 1) (front ++ e ∷ back)) ≡ bytes_in (take (length front + 1) (front ++ e ∷ []))
seam_bytes front e back = ap bytes_in (take-append-add front (e ∷ back) 1 ∙ sym (take-append-add front (e ∷ []) 1))

-- some first extents keep the rules where all do
pub keeps_front : (size block : ℕ) (front back : List Extent) (k : ℕ) → k < length front → KeepsRules size block (front ++ back) k → KeepsRules size block front k
keeps_front size block front back k below kept =
    keeps_same size block (front ++ back) front k (front_at front back k below) (front_bytes front back k below) kept

pub keeps_seam : (size block : ℕ) (front : List Extent) (e : Extent) (back : List Extent) → KeepsRules size block (front ++ e ∷ back) (length front) → KeepsRules size block (front ++ e ∷ []) (length front)
keeps_seam size block front e back kept =
    keeps_same size block (front ++ e ∷ back) (front ++ e ∷ []) (length front) (seam_at front e back ∙ sym (seam_at front e [])) (seam_bytes front e back) kept

pub keeps_longer : (size block : ℕ) (front back : List Extent) (k : ℕ) → k < length front → KeepsRules size block front k → KeepsRules size block (front ++ back) k
keeps_longer size block front back k below kept =
    keeps_same size block front (front ++ back) k (sym (front_at front back k below)) (sym (front_bytes front back k below)) kept

-- the same of kept extents
pub keeps_from_kept : (size block : ℕ) (es : List Extent) (k : ℕ) → KeepsRules size block (map kept_of es) k → KeepsRules size block es k
keeps_from_kept size block es k kept = keeps_at size block (map kept_of es) es k (kept_at es k) (kept_bytes es (k + 1)) kept

pub breaks_from_kept : (size block : ℕ) (front : List Extent) (e : Extent) (back : List Extent) (f : PlanFault)
    → Breaks size block (map kept_of (front ++ e ∷ back)) (length front) f → Breaks size block (front ++ e ∷ []) (length front) f
breaks_from_kept size block front e back f h =
    breaks_at size block (map kept_of (front ++ e ∷ back)) (front ++ e ∷ []) (length front) f
    (kept_at (front ++ e ∷ back) (length front) ∙ ap kept_of (seam_at front e back ∙ sym (seam_at front e [])))
    (kept_bytes (front ++ e ∷ back) (length front + 1) ∙ seam_bytes front e back) h

-- overlaps of kept extents are overlaps
apart_from_kept : (es : List Extent) → AllPairs AreApart (map kept_of es) → AllPairs AreApart es
apart_from_kept es apart = λ i j d before below.
    let h = apart i j (kept_of d) before (omega (arith, length-map es kept_of)) in
    let at : AreApart (kept_of (get_or es i d)) (get_or (map kept_of es) j (kept_of d)) = subst (λ e. AreApart e (get_or (map kept_of es) j (kept_of d))) (get_or-map kept_of es i d) h in
    subst (λ e. AreApart (kept_of (get_or es i d)) e) (get_or-map kept_of es j d) at

apart_two : (es : List Extent) (i j : ℕ) → AreApart (extent_at (map kept_of es) i) (extent_at (map kept_of es) j) → AreApart (extent_at es i) (extent_at es j)
apart_two es i j apart =
    let at : AreApart (kept_of (extent_at es i)) (extent_at (map kept_of es) j) = subst (λ e. AreApart e (extent_at (map kept_of es) j)) (kept_at es i) apart in
    subst (λ e. AreApart (kept_of (extent_at es i)) e) (kept_at es j) at

two_apart : (es : List Extent) (i j : ℕ) → AreApart (extent_at es i) (extent_at es j) → AreApart (extent_at (map kept_of es) i) (extent_at (map kept_of es) j)
two_apart es i j apart =
    let at : AreApart (kept_of (extent_at es i)) (extent_at (map kept_of es) j) = subst (λ e. AreApart (kept_of (extent_at es i)) e) (sym (kept_at es j)) apart in
    subst (λ e. AreApart e (extent_at (map kept_of es) j)) (sym (kept_at es i)) at

each_from_kept : (size block : ℕ) (es : List Extent) → All (IsExtent size block) (map kept_of es) → All (IsExtent size block) es
each_from_kept size block es each = λ k d below.
    extent_from size block (get_or es k d) (subst (IsExtent size block) (get_or-map kept_of es k d) (each k (kept_of d) (omega (arith, below, length-map es kept_of))))

pub overlap_from_kept : (size block : ℕ) (es : List Extent) (j i : ℕ) → IsOverlapFault size block (map kept_of es) j i → IsOverlapFault size block es j i
overlap_from_kept size block es j i h = record {
  each = each_from_kept size block es h.each;
  few = omega (arith, h.few, length-map es kept_of);
  total = omega (arith, h.total, kept_total es);
  overlap = record {
    there = omega (arith, h.overlap.there, length-map es kept_of);
    before = apart_from_kept (take j es) (subst (AllPairs AreApart) (take-map kept_of j es) h.overlap.before);
    earlier = h.overlap.earlier;
    shared = λ apart. h.overlap.shared (two_apart es i j apart);
    first = λ k below. apart_two es k j (h.overlap.first k below);
  };
}

-- sound extents are kept as they are
kept_same : (size block : ℕ) (es : List Extent) → ((k : ℕ) → k < length es → IsExtent size block (kept_of (extent_at es k))) → map kept_of es ≡ es
kept_same size block [] each = refl
kept_same size block (e ∷ es) each =
    let low = (each 0 (omega arith)).priority in
    let priority : min e.priority 255 ≡ e.priority = omega (arith, low) in
    let first : kept_of e ≡ e = λ i. record { at = e.at; len = e.len; priority = priority i } in
    let rest = kept_same size block es (λ k below. each (suc k) (omega (arith, below))) in
    λ i. first i ∷ rest i

pub all_kept : (size block : ℕ) (es : List Extent) → All (IsExtent size block) (map kept_of es) → map kept_of es ≡ es
all_kept size block es each =
    kept_same size block es (λ k below. subst (IsExtent size block) (kept_at es k) (each k no_extent (omega (arith, below, length-map es kept_of))))
