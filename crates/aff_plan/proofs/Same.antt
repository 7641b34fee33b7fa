-- A text is a plan's, or it is refused for one thing.
use Rattle.std.proofs.Common.{◌≡◌, ◌≢◌, ℕ, ◌+◌, ◌<◌, ◌≤◌, ◌⊎◌, inl, inr, List, [], ◌∷◌, ◌++◌, length, refl, sym, ap, subst, ◌∙◌, arith, length-append}
use Rattle.aff_model.specs.declared.extent.Extent.{Extent}
use Rattle.aff_model.specs.declared.plan.PlanFault.{PlanFault}
use Rattle.aff_model.specs.declared.plan.PlanFault.TheVariants as fault
use Rattle.aff_model.specs.Faults.{Breaks, IsFirstFault, IsOwnFault, KeepsRules}
use Rattle.aff_model.specs.Plan.{IsPlan}
use Rattle.aff_model.proofs.Faults.{no_fault, own-first, same_fault}
use Rattle.aff_plan.specs.declared.error.PlanError.{PlanError}
use Rattle.aff_plan.specs.declared.error.PlanError.TheVariants.{Shape, Number, Sector, TooLong, TooMany, PastEnd, Overlap, Priority, Total, Memory}
use Rattle.aff_plan.specs.Line.{HasShape, IsExtentLine, LacksNumber}
use Rattle.aff_plan.specs.Refused.{AreLinesOf, AreRefused, BreaksRule, IsErrorAt, IsFirstWrong, IsOverlapRefusal, IsWrong}
use Rattle.aff_plan.specs.Text.{NumberedLine, number_at}
use Rattle.aff_plan.proofs.Fields.{has_shape, lacks_none, same_extent, shape_lacks}
use Rattle.aff_plan.proofs.Rules.{keep_all, keeps_longer, keeps_seam, unbroken}
use Rattle.aff_plan.proofs.Said.{parts_of, same_said}

-- what is wrong with a line, in three kinds
record WrongShape (n : ℕ) (line : List ℕ) (error : PlanError) : Type 0 where
  is : error ≡ Shape n
  none : ¬ (HasShape line)

record WrongNumber (n : ℕ) (line : List ℕ) (error : PlanError) : Type 0 where
  is : error ≡ Number n
  lacks : LacksNumber line

abbrev Kinds : ℕ → ℕ → ℕ → List Extent → List ℕ → PlanError → Type 0
Kinds size block n es line error = WrongShape n line error ⊎ (WrongNumber n line error ⊎ BreaksRule size block n es line error)

kinds : (size block n : ℕ) (es : List Extent) (line : List ℕ) (error : PlanError) → IsWrong size block n es line error → Kinds size block n es line error
kinds size block n es line (Shape m) h = inl (record { is = ap Shape h.0; none = h.1 })
kinds size block n es line (Number m) h = inr (inl (record { is = ap Number h.0; lacks = h.1 }))
kinds size block n es line (Sector m) h = inr (inr h)
kinds size block n es line (TooLong m) h = inr (inr h)
kinds size block n es line (TooMany m) h = inr (inr h)
kinds size block n es line (PastEnd m) h = inr (inr h)
kinds size block n es line (Overlap m k) h = inr (inr h)
kinds size block n es line (Priority m) h = inr (inr h)
kinds size block n es line (Total m) h = inr (inr h)
kinds size block n es line Memory h = inr (inr h)

-- a line that is wrong says no extent that keeps the rules
not_kept : (size block n : ℕ) (es : List Extent) (line : List ℕ) (error : PlanError) (e : Extent) → IsWrong size block n es line error → IsExtentLine line e
    → ¬ (KeepsRules size block (es ++ e ∷ []) (length es))
not_kept size block n es line error e wrong is kept = elim (kinds size block n es line error wrong) [
  | inl shape ↦ shape.none (has_shape line e is)
  | inr more ↦ elim more [
    | inl number ↦ lacks_none line e is number.lacks
    | inr rule ↦
        let same : rule.extent ≡ e = same_extent line rule.extent e rule.is_line is in
        unbroken size block (es ++ e ∷ []) (length es) rule.fault (subst (λ x. Breaks size block (es ++ x ∷ []) (length es) rule.fault) same rule.breaks) kept
  ]
]

same_error : (n : ℕ) (f : PlanFault) (x y : PlanError) → IsErrorAt n f x → IsErrorAt n f y → x ≡ y
same_error n (fault.Sector k) x y p q = p ∙ sym q
same_error n (fault.TooLong k) x y p q = p ∙ sym q
same_error n fault.TooMany x y p q = p ∙ sym q
same_error n (fault.PastEnd k) x y p q = p ∙ sym q
same_error n (fault.Priority k) x y p q = p ∙ sym q
same_error n (fault.Total k) x y p q = p ∙ sym q
same_error n (fault.Overlap j i) x y p q = absurd p
same_error n fault.Memory x y p q = absurd p

-- the rule that is broken is that of the first fault of the extents up to there
own_fault : (size block n : ℕ) (es : List Extent) (line : List ℕ) (error : PlanError) → ((k : ℕ) → k < length es → KeepsRules size block es k) → (rule : BreaksRule size block n es line error)
    → IsFirstFault size block (es ++ rule.extent ∷ []) rule.fault
own_fault size block n es line error keep rule = own-first size block (es ++ rule.extent ∷ []) rule.fault (record {
  number = length es;
  there = omega (arith, length-append es (rule.extent ∷ []));
  before = λ k below. keeps_longer size block es (rule.extent ∷ []) k below (keep k below);
  breaks = rule.breaks;
})

same_rule : (size block n : ℕ) (es : List Extent) (line : List ℕ) (x y : PlanError) → ((k : ℕ) → k < length es → KeepsRules size block es k)
    → BreaksRule size block n es line x → BreaksRule size block n es line y → x ≡ y
same_rule size block n es line x y keep p q =
    let e : p.extent ≡ q.extent = same_extent line p.extent q.extent p.is_line q.is_line in
    let first = own_fault size block n es line x keep p in
    let second : IsFirstFault size block (es ++ p.extent ∷ []) q.fault = subst (λ v. IsFirstFault size block (es ++ v ∷ []) q.fault) (sym e) (own_fault size block n es line y keep q) in
    let f : p.fault ≡ q.fault = same_fault size block (es ++ p.extent ∷ []) p.fault q.fault first second in
    same_error n q.fault x y (subst (λ v. IsErrorAt n v x) f p.named) q.named

-- a line is wrong in one way
same_wrong : (size block n : ℕ) (es : List Extent) (line : List ℕ) (x y : PlanError) → ((k : ℕ) → k < length es → KeepsRules size block es k)
    → IsWrong size block n es line x → IsWrong size block n es line y → x ≡ y
same_wrong size block n es line x y keep p q = elim (kinds size block n es line x p) [
  | inl a ↦ elim (kinds size block n es line y q) [
    | inl b ↦ a.is ∙ sym b.is
    | inr b ↦ elim b [
      | inl c ↦ absurd (a.none (shape_lacks line c.lacks))
      | inr c ↦ absurd (a.none (has_shape line c.extent c.is_line))
    ]
  ]
  | inr a ↦ elim a [
    | inl d ↦ elim (kinds size block n es line y q) [
      | inl b ↦ absurd (b.none (shape_lacks line d.lacks))
      | inr b ↦ elim b [
        | inl c ↦ d.is ∙ sym c.is
        | inr c ↦ absurd (lacks_none line c.extent c.is_line d.lacks)
      ]
    ]
    | inr d ↦ elim (kinds size block n es line y q) [
      | inl b ↦ absurd (b.none (has_shape line d.extent d.is_line))
      | inr b ↦ elim b [
        | inl c ↦ absurd (lacks_none line d.extent d.is_line c.lacks)
        | inr c ↦ same_rule size block n es line x y keep d c
      ]
    ]
  ]
]

-- where lines that say extents which keep the rules go past a place, the line there is not wrong
not_past : (size block : ℕ) (lines after : List NumberedLine) (error : PlanError) (es : List Extent) (wrong : IsFirstWrong size block lines error)
    → AreLinesOf (wrong.before ++ (wrong.number, wrong.line) ∷ after) es → ¬ ((k : ℕ) → k < length es → KeepsRules size block es k)
not_past size block lines after error es wrong said keep =
    let p = parts_of wrong.before (wrong.number, wrong.line) after es said in
    let front : p.front ≡ wrong.extents = same_said wrong.before p.front wrong.extents p.said wrong.said in
    let there : length p.front < length es = omega (arith, ap length p.are, length-append p.front (p.extent ∷ p.back)) in
    let kept : KeepsRules size block (p.front ++ p.extent ∷ p.back) (length p.front) = subst (λ v. KeepsRules size block v (length p.front)) p.are (keep (length p.front) there) in
    let at = keeps_seam size block p.front p.extent p.back kept in
    not_kept size block wrong.number wrong.extents wrong.line error p.extent wrong.wrong p.is_line
    (subst (λ v. KeepsRules size block (v ++ p.extent ∷ []) (length v)) front at)

-- one list is cut at two places
record Longer (b : List NumberedLine) (l : NumberedLine) (c : List NumberedLine) : Type 0 where
  more : List NumberedLine
  is : c ≡ b ++ l ∷ more

abbrev Cuts : List NumberedLine → NumberedLine → List NumberedLine → NumberedLine → Type 0
Cuts b l c m = ((b ≡ c) × (l ≡ m)) ⊎ (Longer b l c ⊎ Longer c m b)

cuts : (b : List NumberedLine) (l : NumberedLine) (a c : List NumberedLine) (m : NumberedLine) (d : List NumberedLine) → b ++ l ∷ a ≡ c ++ m ∷ d → Cuts b l c m
cuts [] l a [] m d e = inl (refl, cc e)
cuts [] l a (x ∷ c) m d e = let first : x ≡ l = cc e in inr (inl (record { more = c; is = ap (λ v. v ∷ c) first }))
cuts (x ∷ b) l a [] m d e = let first : x ≡ m = cc e in inr (inr (record { more = b; is = ap (λ v. v ∷ b) first }))
cuts (x ∷ b) l a (y ∷ c) m d e =
    let first : x ≡ y = cc e in
    let rest : b ++ l ∷ a ≡ c ++ m ∷ d = cc e in
    elim (cuts b l a c m d rest) [
      | inl same ↦ inl ((λ i. first i ∷ same.0 i), same.1)
      | inr more ↦ elim more [
        | inl p ↦ inr (inl (record { more = p.more; is = λ i. sym first i ∷ p.is i }))
        | inr p ↦ inr (inr (record { more = p.more; is = λ i. first i ∷ p.is i }))
      ]
    ]

not_longer : (size block : ℕ) (lines : List NumberedLine) (x y : PlanError) (p : IsFirstWrong size block lines x) (q : IsFirstWrong size block lines y)
    → ¬ (Longer p.before (p.number, p.line) q.before)
not_longer size block lines x y p q longer =
    not_past size block lines longer.more x q.extents p (subst (λ v. AreLinesOf v q.extents) longer.is q.said) q.keep

same_first : (size block : ℕ) (lines : List NumberedLine) (x y : PlanError) → IsFirstWrong size block lines x → IsFirstWrong size block lines y → x ≡ y
same_first size block lines x y p q = elim (cuts p.before (p.number, p.line) p.after q.before (q.number, q.line) q.after (sym p.are ∙ q.are)) [
  | inl same ↦
      let said : AreLinesOf p.before q.extents = subst (λ v. AreLinesOf v q.extents) (sym same.0) q.said in
      let es : q.extents ≡ p.extents = same_said p.before q.extents p.extents said p.said in
      let number : q.number ≡ p.number = ap (λ (l : NumberedLine). l.0) (sym same.1) in
      let line : q.line ≡ p.line = ap (λ (l : NumberedLine). l.1) (sym same.1) in
      let at_es : IsWrong size block q.number p.extents q.line y = subst (λ v. IsWrong size block q.number v q.line y) es q.wrong in
      let at_number : IsWrong size block p.number p.extents q.line y = subst (λ v. IsWrong size block v p.extents q.line y) number at_es in
      same_wrong size block p.number p.extents p.line x y p.keep p.wrong (subst (λ v. IsWrong size block p.number p.extents v y) line at_number)
  | inr more ↦ elim more [
    | inl longer ↦ absurd (not_longer size block lines x y p q longer)
    | inr longer ↦ absurd (not_longer size block lines y x q p longer)
  ]
]

-- a refusal is that of a line, or an overlap
record OverlapOf (size block : ℕ) (lines : List NumberedLine) (error : PlanError) : Type 0 where
  n : ℕ
  m : ℕ
  is : error ≡ Overlap n m
  refusal : IsOverlapRefusal size block lines n m

sides : (size block : ℕ) (lines : List NumberedLine) (error : PlanError) → AreRefused size block lines error → IsFirstWrong size block lines error ⊎ OverlapOf size block lines error
sides size block lines (Shape n) h = inl h
sides size block lines (Number n) h = inl h
sides size block lines (Sector n) h = inl h
sides size block lines (TooLong n) h = inl h
sides size block lines (TooMany n) h = inl h
sides size block lines (PastEnd n) h = inl h
sides size block lines (Overlap n m) h = inr (record { n = n; m = m; is = refl; refusal = h })
sides size block lines (Priority n) h = inl h
sides size block lines (Total n) h = inl h
sides size block lines Memory h = absurd h

keep_of : (size block : ℕ) (lines : List NumberedLine) (n m : ℕ) (h : IsOverlapRefusal size block lines n m) → (k : ℕ) → k < length h.extents → KeepsRules size block h.extents k
keep_of size block lines n m h = keep_all size block h.extents h.overlap.each h.overlap.few h.overlap.total

not_whole : (size block : ℕ) (lines : List NumberedLine) (error : PlanError) (es : List Extent) → IsFirstWrong size block lines error → AreLinesOf lines es → ¬ ((k : ℕ) → k < length es → KeepsRules size block es k)
not_whole size block lines error es wrong said keep =
    not_past size block lines wrong.after error es wrong (subst (λ v. AreLinesOf v es) wrong.are said) keep

same_overlap : (size block : ℕ) (lines : List NumberedLine) (n m v u : ℕ) → IsOverlapRefusal size block lines n m → IsOverlapRefusal size block lines v u → Overlap n m ≡ Overlap v u
same_overlap size block lines n m v u p q =
    let es : q.extents ≡ p.extents = same_said lines q.extents p.extents q.said p.said in
    let second : IsFirstFault size block p.extents (fault.Overlap q.later q.earlier) = subst (λ x. IsFirstFault size block x (fault.Overlap q.later q.earlier)) es q.overlap in
    let same : fault.Overlap p.later p.earlier ≡ fault.Overlap q.later q.earlier = same_fault size block p.extents (fault.Overlap p.later p.earlier) (fault.Overlap q.later q.earlier) p.overlap second in
    let later : p.later ≡ q.later = cc same in
    let earlier : p.earlier ≡ q.earlier = cc same in
    let n_is : n ≡ v = p.later_line ∙ ap (number_at lines) later ∙ sym q.later_line in
    let m_is : m ≡ u = p.earlier_line ∙ ap (number_at lines) earlier ∙ sym q.earlier_line in
    λ i. Overlap (n_is i) (m_is i)

-- lines are refused for one thing
pub same_refusal : (size block : ℕ) (lines : List NumberedLine) (x y : PlanError) → AreRefused size block lines x → AreRefused size block lines y → x ≡ y
same_refusal size block lines x y p q = elim (sides size block lines x p) [
  | inl a ↦ elim (sides size block lines y q) [
    | inl b ↦ same_first size block lines x y a b
    | inr b ↦ absurd (not_whole size block lines x b.refusal.extents a b.refusal.said (keep_of size block lines b.n b.m b.refusal))
  ]
  | inr a ↦ elim (sides size block lines y q) [
    | inl b ↦ absurd (not_whole size block lines y a.refusal.extents b a.refusal.said (keep_of size block lines a.n a.m a.refusal))
    | inr b ↦ a.is ∙ same_overlap size block lines a.n a.m b.n b.m a.refusal b.refusal ∙ sym b.is
  ]
]

-- lines of a plan are not refused
pub no_refusal : (size block : ℕ) (lines : List NumberedLine) (es : List Extent) (x : PlanError) → AreLinesOf lines es → IsPlan size block es → ¬ (AreRefused size block lines x)
no_refusal size block lines es x said plan refused = elim (sides size block lines x refused) [
  | inl a ↦ not_whole size block lines x es a said (keep_all size block es plan.each plan.few plan.total)
  | inr a ↦
      let same : a.refusal.extents ≡ es = same_said lines a.refusal.extents es a.refusal.said said in
      no_fault size block es (fault.Overlap a.refusal.later a.refusal.earlier) plan
      (subst (λ v. IsFirstFault size block v (fault.Overlap a.refusal.later a.refusal.earlier)) same a.refusal.overlap)
]
