-- Segments are those of a map, or they meet one first refusal.
use Rattle.std.proofs.Common.{◌≡◌, ◌≢◌, ℕ, ◌+◌, ◌%◌, ◌<◌, ◌≤◌, ◌==◌, nat_lt, nat_le, ◌⊎◌, inl, inr, Bool, true, false, cond, List, [], length, get_or, take, refl, sym, ap, subst, ◌∙◌, arith, All, AllPairs}
use Rattle.std.specs.Prelude.{Option, Some, None, Result, Ok, Err, IsSome, IfErr, OnOk, IsOkUnless}
use Rattle.std.proofs.lemmas.Bool.{false≢true}
use Rattle.std.proofs.lemmas.Bool.Decides.{leb_tells, nat_tests}
use Rattle.std.proofs.lemmas.List.{get_or_default, get_or-take, length-take-le}
use Rattle.aff_fields.specs.declared.entry.Entry.{Entry}
use Rattle.aff_fields.specs.Entry.{entries_of}
use Rattle.aff_map.specs.declared.error.MapError.{MapError}
use Rattle.aff_map.specs.declared.error.MapError.TheVariants.{Ragged, Empty, PastEnd, Overlap, NoTarget, BadTarget, PastTarget, Memory}
use Rattle.aff_map.specs.declared.target.Target.{Target}
use Rattle.aff_map.specs.Mapped.{AreApart, IsEntry, IsSound}
use Rattle.aff_map.specs.Refusals.{Breaks, IsEntryFault, IsMapFault, IsFirstOverlap, IsOverlapFault, IsOwnFault, entry_at, no_entry}
use Rattle.aff_map.specs.Targets.{IsFirstUnnamed, IsNamed, target_lines, target_of, targets_of}

-- the rule that an entry breaks first, by the tests of the rules
abbrev first_of_rules : Bool → Bool → Bool → ℕ → MapError
first_of_rules empty past_end no_target k = cond empty (Empty k) (cond past_end (PastEnd k) (cond no_target (NoTarget k) (PastTarget k)))

equal_zero : (n : ℕ) → n ≡ 0 → (n == 0) ≡ true
equal_zero n h = grind (arith, nat_tests)

above_zero : (n : ℕ) → 0 < n → (n == 0) ≡ false
above_zero n h = grind (arith, nat_tests)

below : (a b : ℕ) → a < b → nat_lt a b ≡ true
below a b h = grind (arith, nat_tests)

not_below : (a b : ℕ) → b ≤ a → nat_lt a b ≡ false
not_below a b h = grind (arith, nat_tests)

up_to : (a b : ℕ) → a ≤ b → nat_le a b ≡ true
up_to a b h = grind (arith, nat_tests)

not_up_to : (a b : ℕ) → b < a → nat_le a b ≡ false
not_up_to a b h = grind (arith, nat_tests)

module _ (size stream_size : ℕ) (targets : List Target) where
  abbrev first_broken : ℕ → Entry → MapError
  first_broken k e = first_of_rules (e.len == 0) (nat_lt size (e.at + e.len)) (nat_le (length targets) e.target) k

  -- an entry breaks one rule first
  broken_first : (k : ℕ) (e : Entry) (f : MapError) → Breaks size stream_size targets k e f → f ≡ first_broken k e
  broken_first k e (Empty i) h =
      ap Empty h.0 ∙ sym (ap (λ a. first_of_rules a (nat_lt size (e.at + e.len)) (nat_le (length targets) e.target) k) (equal_zero e.len h.1))
  broken_first k e (PastEnd i) h =
      let a = above_zero e.len h.1 in
      let b = below size (e.at + e.len) h.2 in
      ap PastEnd h.0 ∙ sym (λ i. first_of_rules (a i) (b i) (nat_le (length targets) e.target) k)
  broken_first k e (NoTarget i) h =
      let a = above_zero e.len h.1.some in
      let b = not_below size (e.at + e.len) h.1.inside in
      let c = up_to (length targets) e.target h.2 in
      ap NoTarget h.0 ∙ sym (λ i. first_of_rules (a i) (b i) (c i) k)
  broken_first k e (PastTarget i) h =
      let a = above_zero e.len h.1.some in
      let b = not_below size (e.at + e.len) h.1.inside in
      let c = not_up_to (length targets) e.target h.2 in
      ap PastTarget h.0 ∙ sym (λ i. first_of_rules (a i) (b i) (c i) k)
  broken_first k e (Ragged len) h = absurd h
  broken_first k e (BadTarget line) h = absurd h
  broken_first k e (Overlap a b) h = absurd h
  broken_first k e Memory h = absurd h

  -- an entry that breaks a rule does not keep all
  unfit : (k : ℕ) (e : Entry) (f : MapError) → Breaks size stream_size targets k e f → ¬ (IsEntry size stream_size targets e)
  unfit k e (Empty i) h fits = omega (arith, fits.some, h.1)
  unfit k e (PastEnd i) h fits = omega (arith, fits.inside, h.2)
  unfit k e (NoTarget i) h fits = omega (arith, fits.known, h.2)
  unfit k e (PastTarget i) h fits = omega (arith, fits.reaches, h.3)
  unfit k e (Ragged len) h fits = h
  unfit k e (BadTarget line) h fits = h
  unfit k e (Overlap a b) h fits = h
  unfit k e Memory h fits = h

  module _ (es : List Entry) where
    not_sooner : (f g : MapError) → (a : IsOwnFault size stream_size targets es f) → (b : IsOwnFault size stream_size targets es g) → a.number ≤ b.number
    not_sooner f g a b = elim (leb_tells a.number b.number) [
      | inl x ↦ x.1
      | inr y ↦ absurd (unfit b.number (entry_at es b.number) g b.breaks (a.before b.number y.1))
    ]

    same_own : (f g : MapError) → IsOwnFault size stream_size targets es f → IsOwnFault size stream_size targets es g → f ≡ g
    same_own f g a b =
        let u = not_sooner f g a b in
        let v = not_sooner g f b a in
        let one : a.number ≡ b.number = omega (arith, u, v) in
        broken_first a.number (entry_at es a.number) f a.breaks ∙ ap (λ k. first_broken k (entry_at es k)) one ∙ sym (broken_first b.number (entry_at es b.number) g b.breaks)

    -- where every entry keeps all rules there is none
    no_own : (f : MapError) → All (IsEntry size stream_size targets) es → ¬ (IsOwnFault size stream_size targets es f)
    no_own f each a = unfit a.number (entry_at es a.number) f a.breaks (each a.number no_entry a.there)

-- an earlier entry of a prefix that is apart
apart_in : (es : List Entry) (b u v : ℕ) → b ≤ length es → AllPairs AreApart (take b es) → u < v → v < b → AreApart (entry_at es u) (entry_at es v)
apart_in es b u v inside apart uv vb =
    let P : Entry → Entry → Type 0 = AreApart in
    let before : u < b = omega arith in
    let n : length (take b es) ≡ b = length-take-le b es inside in
    let w : P (get_or (take b es) u no_entry) (get_or (take b es) v no_entry) = apart u v no_entry uv (omega arith) in
    let x : P (entry_at es u) (get_or (take b es) v no_entry) = subst (λ e. P e (get_or (take b es) v no_entry)) (get_or-take b es u no_entry before) w in
    subst (λ e. P (entry_at es u) e) (get_or-take b es v no_entry vb) x

later_soonest : (es : List Entry) (a b c d : ℕ) → IsFirstOverlap es a b → IsFirstOverlap es c d → b ≤ d
later_soonest es a b c d x y = elim (leb_tells b d) [
  | inl z ↦ z.1
  | inr z ↦ absurd (y.shared (apart_in es b c d (omega (arith, x.there)) x.before y.earlier z.1))
]

earlier_soonest : (es : List Entry) (a b c : ℕ) → IsFirstOverlap es a b → IsFirstOverlap es c b → a ≤ c
earlier_soonest es a b c x y = elim (leb_tells a c) [
  | inl z ↦ z.1
  | inr z ↦ absurd (y.shared (x.first c z.1))
]

same_number : (a b : ℕ) → a ≤ b → b ≤ a → a ≡ b
same_number a b h q = omega arith

same_overlap : (es : List Entry) (a b c d : ℕ) → IsFirstOverlap es a b → IsFirstOverlap es c d → Overlap a b ≡ Overlap c d
same_overlap es a b c d x y =
    let later : b ≡ d = same_number b d (later_soonest es a b c d x y) (later_soonest es c d a b y x) in
    let z : IsFirstOverlap es c b = subst (λ k. IsFirstOverlap es c k) (sym later) y in
    let earlier : a ≡ c = same_number a c (earlier_soonest es a b c x z) (earlier_soonest es c b a z x) in
    λ i. Overlap (earlier i) (later i)

-- of lines of which the first so many are named, one of those
line_named : (stream : List ℕ) (lines : List (List ℕ)) (index k : ℕ) → index ≤ length lines → All (IsNamed stream) (take index lines) → k < index → IsNamed stream (get_or lines k [])
line_named stream lines index k inside named b =
    let n = length-take-le index lines inside in
    subst (IsNamed stream) (get_or-take index lines k [] b) (named k [] (omega (arith, n)))

unnamed_not_named : (stream line : List ℕ) → target_of stream line ≡ None → ¬ (IsNamed stream line)
unnamed_not_named stream line none named =
    let some = subst (IsSome {T = Target}) none named in
    false≢true some

index_soonest : (stream : List ℕ) (lines : List (List ℕ)) (m n : ℕ) → (a : IsFirstUnnamed stream lines m) → (b : IsFirstUnnamed stream lines n) → a.index ≤ b.index
index_soonest stream lines m n a b = elim (leb_tells a.index b.index) [
  | inl x ↦ x.1
  | inr y ↦ absurd (unnamed_not_named stream (get_or lines b.index []) b.unnamed (line_named stream lines a.index b.index (omega (arith, a.there)) a.before y.1))
]

same_line : (stream : List ℕ) (lines : List (List ℕ)) (m n : ℕ) → IsFirstUnnamed stream lines m → IsFirstUnnamed stream lines n → m ≡ n
same_line stream lines m n a b =
    omega (arith, a.from_one, b.from_one, index_soonest stream lines m n a b, index_soonest stream lines n m b a)

not_all_named : (stream : List ℕ) (lines : List (List ℕ)) (n : ℕ) → IsFirstUnnamed stream lines n → ¬ (All (IsNamed stream) lines)
not_all_named stream lines n a named = unnamed_not_named stream (get_or lines a.index []) a.unnamed (named a.index [] a.there)

module _ (map idx : List ℕ) (size : ℕ) (stream : List ℕ) (stream_size : ℕ) where
  -- what a refusal says of the rules that are asked before it: the map's length, the lines, the entries
  abbrev AfterLength : MapError → Type 0
  AfterLength (Ragged len) = Unit {0}
  AfterLength (BadTarget line) = length map % 28 ≡ 0
  AfterLength (Empty e) = length map % 28 ≡ 0
  AfterLength (PastEnd e) = length map % 28 ≡ 0
  AfterLength (NoTarget e) = length map % 28 ≡ 0
  AfterLength (PastTarget e) = length map % 28 ≡ 0
  AfterLength (Overlap a b) = length map % 28 ≡ 0
  AfterLength Memory = ⊥

  abbrev AfterLines : MapError → Type 0
  AfterLines (Ragged len) = Unit {0}
  AfterLines (BadTarget line) = Unit {0}
  AfterLines (Empty e) = All (IsNamed stream) (target_lines idx)
  AfterLines (PastEnd e) = All (IsNamed stream) (target_lines idx)
  AfterLines (NoTarget e) = All (IsNamed stream) (target_lines idx)
  AfterLines (PastTarget e) = All (IsNamed stream) (target_lines idx)
  AfterLines (Overlap a b) = All (IsNamed stream) (target_lines idx)
  AfterLines Memory = ⊥

  abbrev OfEntry : MapError → Type 0
  OfEntry (Ragged len) = Unit {0}
  OfEntry (BadTarget line) = Unit {0}
  OfEntry (Empty e) = IsOwnFault size stream_size (targets_of stream idx) (entries_of map) (Empty e)
  OfEntry (PastEnd e) = IsOwnFault size stream_size (targets_of stream idx) (entries_of map) (PastEnd e)
  OfEntry (NoTarget e) = IsOwnFault size stream_size (targets_of stream idx) (entries_of map) (NoTarget e)
  OfEntry (PastTarget e) = IsOwnFault size stream_size (targets_of stream idx) (entries_of map) (PastTarget e)
  OfEntry (Overlap a b) = Unit {0}
  OfEntry Memory = ⊥

  after_length : (f : MapError) → IsMapFault map idx size stream stream_size f → AfterLength f
  after_length (Ragged len) h = tt
  after_length (BadTarget line) h = h.0
  after_length (Empty e) h = h.whole
  after_length (PastEnd e) h = h.whole
  after_length (NoTarget e) h = h.whole
  after_length (PastTarget e) h = h.whole
  after_length (Overlap a b) h = h.whole
  after_length Memory h = h

  after_lines : (f : MapError) → IsMapFault map idx size stream stream_size f → AfterLines f
  after_lines (Ragged len) h = tt
  after_lines (BadTarget line) h = tt
  after_lines (Empty e) h = h.named
  after_lines (PastEnd e) h = h.named
  after_lines (NoTarget e) h = h.named
  after_lines (PastTarget e) h = h.named
  after_lines (Overlap a b) h = h.named
  after_lines Memory h = h

  of_entry : (f : MapError) → IsMapFault map idx size stream stream_size f → OfEntry f
  of_entry (Ragged len) h = tt
  of_entry (BadTarget line) h = tt
  of_entry (Empty e) h = h.own
  of_entry (PastEnd e) h = h.own
  of_entry (NoTarget e) h = h.own
  of_entry (PastTarget e) h = h.own
  of_entry (Overlap a b) h = tt
  of_entry Memory h = h

  -- segments meet one refusal first
  pub same_fault : (f g : MapError) → IsMapFault map idx size stream stream_size f → IsMapFault map idx size stream stream_size g → f ≡ g
  same_fault Memory g h q = absurd h
  same_fault f Memory h q = absurd q
  same_fault (Ragged a) (Ragged b) h q = ap Ragged (h.1 ∙ sym q.1)
  same_fault (Ragged a) g h q = absurd (h.0 (after_length g q))
  same_fault f (Ragged b) h q = absurd (q.0 (after_length f h))
  same_fault (BadTarget a) (BadTarget b) h q = ap BadTarget (same_line stream (target_lines idx) a b h.1 q.1)
  same_fault (BadTarget a) g h q = absurd (not_all_named stream (target_lines idx) a h.1 (after_lines g q))
  same_fault f (BadTarget b) h q = absurd (not_all_named stream (target_lines idx) b q.1 (after_lines f h))
  same_fault (Overlap a b) (Overlap c d) h q = same_overlap (entries_of map) a b c d h.overlap q.overlap
  same_fault (Overlap a b) g h q = absurd (no_own size stream_size (targets_of stream idx) (entries_of map) g h.each (of_entry g q))
  same_fault f (Overlap c d) h q = absurd (no_own size stream_size (targets_of stream idx) (entries_of map) f q.each (of_entry f h))
  same_fault f g h q = same_own size stream_size (targets_of stream idx) (entries_of map) f g (of_entry f h) (of_entry g q)

  -- sound ones meet none
  pub no_fault : (f : MapError) → IsSound map idx size stream stream_size → ¬ (IsMapFault map idx size stream stream_size f)
  no_fault (Ragged len) sound h = h.0 sound.whole
  no_fault (BadTarget line) sound h = not_all_named stream (target_lines idx) line h.1 sound.named
  no_fault (Overlap a b) sound h =
      h.overlap.shared (sound.apart a b no_entry h.overlap.earlier h.overlap.there)
  no_fault Memory sound h = h
  no_fault f sound h = no_own size stream_size (targets_of stream idx) (entries_of map) f sound.each (of_entry f h)

  -- want of memory, or another refusal
  memory_or : (f : MapError) → (f ≡ Memory) ⊎ (f ≢ Memory)
  memory_or Memory = inl refl
  memory_or (Ragged len) = inr (λ e. cc)
  memory_or (BadTarget line) = inr (λ e. cc)
  memory_or (Empty e) = inr (λ e. cc)
  memory_or (PastEnd e) = inr (λ e. cc)
  memory_or (NoTarget e) = inr (λ e. cc)
  memory_or (PastTarget e) = inr (λ e. cc)
  memory_or (Overlap a b) = inr (λ e. cc)

  -- what an answer says of sound segments, and of those that meet a refusal
  pub is_taken : {M : Type 0} (r : Result M MapError) → IfErr r (λ e. e ≢ Memory → IsMapFault map idx size stream stream_size e) → IsSound map idx size stream stream_size → IsOkUnless r Memory
  is_taken (Ok m) refused sound = tt
  is_taken (Err f) refused sound = elim (memory_or f) [
    | inl is ↦ is
    | inr other ↦ absurd (no_fault f sound (refused other))
  ]

  pub is_told : {M : Type 0} (r : Result M MapError) → OnOk r (IsSound map idx size stream stream_size) → IfErr r (λ e. e ≢ Memory → IsMapFault map idx size stream stream_size e) → (g : MapError) → IsMapFault map idx size stream stream_size g → (r ≡ Err g) ⊎ (r ≡ Err Memory)
  is_told (Ok m) sound refused g fault = absurd (no_fault g sound fault)
  is_told (Err f) sound refused g fault = elim (memory_or f) [
    | inl is ↦ inr (ap Err is)
    | inr other ↦ inl (ap Err (same_fault f g (refused other) fault))
  ]
