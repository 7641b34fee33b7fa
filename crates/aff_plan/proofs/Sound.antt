-- What was read, and what is refused.
use Rattle.std.proofs.Common.{◌≡◌, ℕ, ◌+◌, ◌<◌, List, [], ◌∷◌, ◌++◌, length, map, refl, sym, ap, subst, ◌∙◌, arith, inl, inr, append_assoc, slice_index}
use Rattle.std.proofs.lemmas.List.{append-nil, length-map, map-append}
use Rattle.std.specs.Prelude.{Option, None, Some}
use Rattle.std.proofs.lemmas.Bool.Decides.{leb_tells}
use Rattle.aff_model.specs.declared.extent.Extent.{Extent}
use Rattle.aff_model.specs.declared.limits.TheConstants.{MAX_EXTENTS}
use Rattle.aff_model.specs.declared.plan.PlanFault.{PlanFault}
use Rattle.aff_model.specs.declared.plan.PlanFault.TheVariants as fault
use Rattle.aff_model.specs.Faults.{Breaks, IsFirstFault, IsOwnFault, IsOverlapFault, KeepsRules}
use Rattle.aff_model.specs.Plan.{IsPlan}
use Rattle.aff_plan.specs.declared.error.PlanError.{PlanError}
use Rattle.aff_plan.specs.declared.error.PlanError.TheVariants.{Shape, Number, Sector, TooLong, TooMany, PastEnd, Overlap, Priority, Total, Memory}
use Rattle.aff_plan.specs.Line.{HasShape, IsExtentLine, LacksNumber}
use Rattle.aff_plan.specs.Reading.{AreRead, IsReading, IsStop, kept_of}
use Rattle.aff_plan.specs.Refused.{AreLinesOf, AreRefused, BreaksRule, IsErrorAt, IsFirstWrong, IsOverlapRefusal, IsWrong}
use Rattle.aff_plan.specs.Text.{NumberedLine, number_at, numbers_of}
use Rattle.aff_plan.proofs.Rules.{all_kept, breaks_from_kept, keep_all, keeps_from_kept, keeps_front, overlap_from_kept}
use Rattle.aff_plan.proofs.Said.{parts_at, said_more}

-- a line that stops the reading is refused, where the extents before it keep the rules
pub refused_stop : (size block : ℕ) (lines : List NumberedLine) (numbers : List ℕ) (kept : List Extent) (error : PlanError) → IsReading lines numbers kept (Some error)
    → ((k : ℕ) → k < length kept → KeepsRules size block kept k) → AreRefused size block lines error
refused_stop size block lines numbers kept error (after, read, stop) keep = by_case error stop
  where
    extents_keep : (k : ℕ) → k < length read.extents → KeepsRules size block read.extents k
    extents_keep k below =
        let long : length kept ≡ length read.extents = ap length read.keeps ∙ length-map read.extents kept_of in
        keeps_from_kept size block read.extents k (subst (λ es. KeepsRules size block es k) read.keeps (keep k (omega (arith, long, below))))

    by_case : (error : PlanError) → IsStop after (Some error) → AreRefused size block lines error
    by_case (Shape n) (line, others, is, none) = record {
      before = read.before;
      number = n;
      line = line;
      after = others;
      are = read.are ∙ ap (λ v. read.before ++ v) is;
      extents = read.extents;
      said = read.said;
      keep = extents_keep;
      wrong = (refl, none);
    }
    by_case (Number n) (line, others, is, lacks) = record {
      before = read.before;
      number = n;
      line = line;
      after = others;
      are = read.are ∙ ap (λ v. read.before ++ v) is;
      extents = read.extents;
      said = read.said;
      keep = extents_keep;
      wrong = (refl, lacks);
    }
    by_case (Sector n) stop = absurd stop
    by_case (TooLong n) stop = absurd stop
    by_case (TooMany n) stop = absurd stop
    by_case (PastEnd n) stop = absurd stop
    by_case (Overlap n m) stop = absurd stop
    by_case (Priority n) stop = absurd stop
    by_case (Total n) stop = absurd stop
    by_case Memory stop = absurd stop

-- an extent by itself is refused at its line
pub refused_own : (size block : ℕ) (lines : List NumberedLine) (numbers : List ℕ) (kept : List Extent) (stop : Option PlanError) (f : PlanFault) (error : PlanError)
    → IsReading lines numbers kept stop → (own : IsOwnFault size block kept f) → IsErrorAt (slice_index numbers own.number) f error
    → ((n : ℕ) (es : List Extent) (line : List ℕ) → BreaksRule size block n es line error → IsWrong size block n es line error) → IsFirstWrong size block lines error
refused_own size block lines numbers kept stop f error (after, read, stopped) own named wrong =
    let long : length kept ≡ length read.extents = ap length read.keeps ∙ length-map read.extents kept_of in
    let p = parts_at read.before read.extents own.number read.said (omega (arith, long, own.there)) in
    let kept_are : kept ≡ map kept_of (p.front ++ p.extent ∷ p.back) = read.keeps ∙ ap (map kept_of) p.extents_are in
    let number : slice_index numbers own.number ≡ p.line.0 = ap (λ v. slice_index v own.number) read.numbered ∙ p.number in
    let breaks : Breaks size block (map kept_of (p.front ++ p.extent ∷ p.back)) (length p.front) f =
    subst (λ k. Breaks size block (map kept_of (p.front ++ p.extent ∷ p.back)) k f) (sym p.place) (subst (λ es. Breaks size block es own.number f) kept_are own.breaks) in
    record {
      before = p.before;
      number = p.line.0;
      line = p.line.1;
      after = p.after ++ after;
      are = read.are ∙ ap (λ v. v ++ after) p.lines_are ∙ append_assoc p.before (p.line ∷ p.after) after;
      extents = p.front;
      said = p.said;
      keep = λ k below.
          let there : k < own.number = omega (arith, below, p.place) in
          keeps_front size block p.front (p.extent ∷ p.back) k below
          (keeps_from_kept size block (p.front ++ p.extent ∷ p.back) k (subst (λ es. KeepsRules size block es k) kept_are (own.before k there)));
      wrong = wrong p.line.0 p.front p.line.1 (record {
        extent = p.extent;
        is_line = p.is_line;
        fault = f;
        breaks = breaks_from_kept size block p.front p.extent p.back f breaks;
        named = subst (λ n. IsErrorAt n f error) number named;
      });
    }

-- where all lines were read, they say what was kept but for its priorities
all_said : (lines : List NumberedLine) (numbers : List ℕ) (kept : List Extent) (after : List NumberedLine) (read : AreRead lines after numbers kept) → after ≡ [] → AreLinesOf lines read.extents
all_said lines numbers kept after read end =
    subst (λ v. AreLinesOf v read.extents) (sym (read.are ∙ ap (λ v. read.before ++ v) end ∙ append-nil read.before)) read.said

all_numbered : (lines : List NumberedLine) (numbers : List ℕ) (kept : List Extent) (after : List NumberedLine) (read : AreRead lines after numbers kept) → after ≡ [] → numbers ≡ numbers_of lines
all_numbered lines numbers kept after read end =
    read.numbered ∙ ap numbers_of (sym (read.are ∙ ap (λ v. read.before ++ v) end ∙ append-nil read.before))

pub refused_overlap : (size block : ℕ) (lines : List NumberedLine) (numbers : List ℕ) (kept : List Extent) (j i : ℕ)
    → IsReading lines numbers kept None → IsOverlapFault size block kept j i → IsOverlapRefusal size block lines (slice_index numbers j) (slice_index numbers i)
refused_overlap size block lines numbers kept j i (after, read, end) h = record {
  extents = read.extents;
  said = all_said lines numbers kept after read end;
  later = j;
  earlier = i;
  overlap = overlap_from_kept size block read.extents j i (subst (λ es. IsOverlapFault size block es j i) read.keeps h);
  later_line = ap (λ v. slice_index v j) (all_numbered lines numbers kept after read end);
  earlier_line = ap (λ v. slice_index v i) (all_numbered lines numbers kept after read end);
}

-- a plan that is kept is what the lines say
pub plan_said : (size block : ℕ) (lines : List NumberedLine) (numbers : List ℕ) (kept : List Extent) → IsReading lines numbers kept None → IsPlan size block kept → AreLinesOf lines kept
plan_said size block lines numbers kept (after, read, end) plan =
    let each = subst (λ es. IsPlan size block es) read.keeps plan in
    let same : kept ≡ read.extents = read.keeps ∙ all_kept size block read.extents each.each in
    subst (λ es. AreLinesOf lines es) (sym same) (all_said lines numbers kept after read end)

-- a plan that is kept keeps the rules, and so does a list with an overlap
pub plan_keeps : (size block : ℕ) (es : List Extent) → IsPlan size block es → (k : ℕ) → k < length es → KeepsRules size block es k
plan_keeps size block es plan = keep_all size block es plan.each plan.few plan.total

pub overlap_keeps : (size block : ℕ) (es : List Extent) (j i : ℕ) → IsOverlapFault size block es j i → (k : ℕ) → k < length es → KeepsRules size block es k
overlap_keeps size block es j i h = keep_all size block es h.each h.few h.total

-- nothing was read yet
pub read_none : (lines : List NumberedLine) (numbers : List ℕ) (kept : List Extent) → numbers ≡ [] → kept ≡ [] → AreRead lines lines numbers kept
read_none lines numbers kept no_numbers none = record { before = []; are = refl; numbered = no_numbers; extents = []; said = tt; keeps = none }

-- one line more was read
pub read_more : (lines : List NumberedLine) (n : ℕ) (line : List ℕ) (after : List NumberedLine) (numbers : List ℕ) (kept : List Extent) (e : Extent)
    → AreRead lines ((n, line) ∷ after) numbers kept → IsExtentLine line e → AreRead lines after (numbers ++ n ∷ []) (kept ++ kept_of e ∷ [])
read_more lines n line after numbers kept e read is = record {
  before = read.before ++ (n, line) ∷ [];
  are = read.are ∙ sym (append_assoc read.before ((n, line) ∷ []) after);
  numbered = ap (λ v. v ++ n ∷ []) read.numbered ∙ sym (map-append (λ (l : NumberedLine). l.0) read.before ((n, line) ∷ []));
  extents = read.extents ++ e ∷ [];
  said = said_more read.before read.extents (n, line) e read.said is;
  keeps = ap (λ v. v ++ kept_of e ∷ []) read.keeps ∙ sym (map-append kept_of read.extents (e ∷ []));
}

-- the first extent too many is the one behind the greatest number of them
pub first_too_many : (size block : ℕ) (kept : List Extent) (own : IsOwnFault size block kept fault.TooMany) → own.number ≡ MAX_EXTENTS
first_too_many size block kept own = elim (leb_tells own.number MAX_EXTENTS) [
  | inl x ↦ omega (arith, x.1, own.breaks.1)
  | inr y ↦ absurd (omega (arith, (own.before MAX_EXTENTS y.1).few))
]
