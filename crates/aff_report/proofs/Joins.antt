-- Lists cut into greatest runs: what an open run is when more stands behind it, and the text that its runs make.
use Rattle.std.proofs.Common.{◌≡◌, ℕ, suc, ◌+◌, ◌-◌, ◌<◌, Bool, true, false, nat_lt, codes, List, [], ◌∷◌, ◌++◌, length, drop, get_or, map, sym, ap, ◌∙◌, arith, append_assoc, append-nil, length-drop}
use Rattle.std.specs.Prelude.{if◌then◌else◌}
use Rattle.std.proofs.lemmas.Bool.Decides.{nat_tests}
use Rattle.std.specs.List.{join_with_byte}
use Rattle.std.proofs.Math.Seq.{drop-cons}

-- how a list is cut into runs: one element more in front goes on the first run, or is a run of its own
pub record AreJoined {A R : Type 0} (next : A → A) (run : A → ℕ → R) (onto : A → List R → List R) (runs : List A → List R) : Type 0 where
  pub none : runs [] ≡ []
  pub more : (a : A) (xs : List A) → runs (a ∷ xs) ≡ onto a (runs xs)
  pub alone : (a : A) → onto a [] ≡ run a 1 ∷ []
  pub goes_on : (a : A) (n : ℕ) (rest : List R) → onto a (run (next a) n ∷ rest) ≡ run a (n + 1) ∷ rest
  pub apart : (a b : A) (n : ℕ) (rest : List R) → ¬ (b ≡ next a) → onto a (run b n ∷ rest) ≡ run a 1 ∷ run b n ∷ rest
  pub starts : (a : A) (rest : List R) → (n : ℕ) × ((more : List R) × (onto a rest ≡ run a n ∷ more))

-- the run that a list begins with goes up to its element `a`, behind which `i` elements are gone over
pub record IsOpen {A R : Type 0} (run : A → ℕ → R) (onto : A → List R → List R) (runs : List A → List R) (xs : List A) (first a : A) (i : ℕ) : Type 0 where
  pub whole : (n : ℕ) (rest : List R) → onto a (runs (drop i xs)) ≡ run a n ∷ rest → runs xs ≡ run first (n + (i - 1)) ∷ rest

pub IsOpen-more : {A R : Type 0} (next : A → A) (run : A → ℕ → R) (onto : A → List R → List R) (runs : List A → List R) → AreJoined next run onto runs
    → (xs : List A) (first a d : A) (i : ℕ) → 0 < i → i < length xs → get_or xs i d ≡ next a → IsOpen run onto runs xs first a i → IsOpen run onto runs xs first (get_or xs i d) (i + 1)
IsOpen-more {A} {R} next run onto runs joined xs first a d i some below follows is_open =
    let one_more : suc i ≡ i + 1 = omega arith in
    let behind : drop i xs ≡ get_or xs i d ∷ drop (i + 1) xs = drop-cons xs i d below ∙ ap (λ k. get_or xs i d ∷ drop k xs) one_more in
    let count : (n : ℕ) → (n + 1) + (i - 1) ≡ n + ((i + 1) - 1) = λ n. omega (arith, some) in
    record {
      whole = λ n rest h.
          is_open.whole (n + 1) rest
          (ap (λ v. onto a (runs v)) behind ∙ ap (onto a) (joined.more (get_or xs i d) (drop (i + 1) xs) ∙ h ∙ ap (λ b. run b n ∷ rest) follows) ∙ joined.goes_on a n rest)
          ∙ ap (λ k. run first k ∷ rest) (count n);
    }

pub IsOpen-apart : {A R : Type 0} (next : A → A) (run : A → ℕ → R) (onto : A → List R → List R) (runs : List A → List R) → AreJoined next run onto runs
    → (xs : List A) (first a d : A) (i : ℕ) → 0 < i → i < length xs → ¬ (get_or xs i d ≡ next a) → IsOpen run onto runs xs first a i → runs xs ≡ run first i ∷ runs (drop i xs)
IsOpen-apart {A} {R} next run onto runs joined xs first a d i some below apart is_open =
    let b = get_or xs i d in
    let one_more : suc i ≡ i + 1 = omega arith in
    let behind : drop i xs ≡ get_or xs i d ∷ drop (i + 1) xs = drop-cons xs i d below ∙ ap (λ k. get_or xs i d ∷ drop k xs) one_more in
    let started = joined.starts b (runs (drop (i + 1) xs)) in
    let begun : runs (drop i xs) ≡ run b started.0 ∷ started.1.0 = ap runs behind ∙ joined.more b (drop (i + 1) xs) ∙ started.1.1 in
    let count : 1 + (i - 1) ≡ i = omega (arith, some) in
    is_open.whole 1 (runs (drop i xs)) (ap (onto a) begun ∙ joined.apart a b started.0 started.1.0 apart ∙ ap (λ v. run a 1 ∷ v) (sym begun))
    ∙ ap (λ k. run first k ∷ runs (drop i xs)) count

pub IsOpen-end : {A R : Type 0} (next : A → A) (run : A → ℕ → R) (onto : A → List R → List R) (runs : List A → List R) → AreJoined next run onto runs
    → (xs : List A) (first a : A) (i : ℕ) → 0 < i → drop i xs ≡ [] → IsOpen run onto runs xs first a i → runs xs ≡ run first i ∷ runs (drop i xs)
IsOpen-end {A} {R} next run onto runs joined xs first a i some ended is_open =
    let last : runs (drop i xs) ≡ [] = ap runs ended ∙ joined.none in
    let count : 1 + (i - 1) ≡ i = omega (arith, some) in
    is_open.whole 1 [] (ap (onto a) last ∙ joined.alone a)
    ∙ ap (λ k. run first k ∷ []) count ∙ ap (λ v. run first i ∷ v) (sym last)

-- the text of a list that is one run
text-one : {A R : Type 0} (text : R → List ℕ) (runs : List A → List R) (xs rest : List A) (r : R) → runs xs ≡ r ∷ runs rest → runs rest ≡ []
    → join_with_byte 44 (map text (runs xs)) ≡ text r
text-one {A} {R} text runs xs rest r first ended = ap (λ v. join_with_byte 44 (map text v)) (first ∙ ap (λ v. r ∷ v) ended)

-- the text of a list that has more runs
text-more : {A R : Type 0} (text : R → List ℕ) (runs : List A → List R) (xs rest : List A) (r q : R) (more : List R) → runs xs ≡ r ∷ runs rest → runs rest ≡ q ∷ more
    → join_with_byte 44 (map text (runs xs)) ≡ text r ++ (44 ∷ join_with_byte 44 (map text (runs rest)))
text-more {A} {R} text runs xs rest r q more first second =
    ap (λ v. join_with_byte 44 (map text v)) (first ∙ ap (λ v. r ∷ v) second)
    ∙ ap (λ v. text r ++ (44 ∷ join_with_byte 44 (map text v))) (sym second)

less_left : (n m : ℕ) → nat_lt 0 (m - n) ≡ nat_lt n m
less_left n m = grind (arith, nat_tests)

true_is_not_false : true ≡ nat_lt 0 0 → ⊥
true_is_not_false h = grind (arith, nat_tests)

false_is_not_true : (n : ℕ) → false ≡ nat_lt 0 (suc n) → ⊥
false_is_not_true n h = grind (arith, nat_tests)

text_behind : {A R : Type 0} (next : A → A) (run : A → ℕ → R) (onto : A → List R → List R) (runs : List A → List R) → AreJoined next run onto runs → (text : R → List ℕ)
    → (xs rest : List A) (r : R) (more : Bool) → runs xs ≡ r ∷ runs rest → more ≡ nat_lt 0 (length rest)
    → (text r ++ (if more then codes "," else [])) ++ join_with_byte 44 (map text (runs rest)) ≡ join_with_byte 44 (map text (runs xs))
text_behind {A} {R} next run onto runs joined text xs [] r true first told = absurd (true_is_not_false told)
text_behind {A} {R} next run onto runs joined text xs [] r false first told =
    ap (λ v. (text r ++ []) ++ join_with_byte 44 (map text v)) joined.none
    ∙ append-nil (text r ++ []) ∙ append-nil (text r)
    ∙ sym (text-one text runs xs [] r first joined.none)
text_behind {A} {R} next run onto runs joined text xs (y ∷ rest) r true first told =
    let started = joined.starts y (runs rest) in
    append_assoc (text r) (codes ",") (join_with_byte 44 (map text (runs (y ∷ rest))))
    ∙ sym (text-more text runs xs (y ∷ rest) r (run y started.0) started.1.0 first (joined.more y rest ∙ started.1.1))
text_behind {A} {R} next run onto runs joined text xs (y ∷ rest) r false first told = absurd (false_is_not_true (length rest) told)

-- a run is written with a comma if more come, and then what it leaves
pub text-next : {A R : Type 0} (next : A → A) (run : A → ℕ → R) (onto : A → List R → List R) (runs : List A → List R) → AreJoined next run onto runs → (text : R → List ℕ)
    → (xs : List A) (n : ℕ) (r : R) (old new : List ℕ) → runs xs ≡ r ∷ runs (drop n xs) → new ≡ old ++ (text r ++ (if nat_lt n (length xs) then codes "," else []))
    → new ++ join_with_byte 44 (map text (runs (drop n xs))) ≡ old ++ join_with_byte 44 (map text (runs xs))
text-next {A} {R} next run onto runs joined text xs n r old new first written =
    let rest = join_with_byte 44 (map text (runs (drop n xs))) in
    let left : nat_lt n (length xs) ≡ nat_lt 0 (length (drop n xs)) = sym (ap (nat_lt 0) (length-drop n xs) ∙ less_left n (length xs)) in
    ap (λ v. v ++ rest) written
    ∙ append_assoc old (text r ++ (if nat_lt n (length xs) then codes "," else [])) rest
    ∙ ap (λ v. old ++ v) (text_behind next run onto runs joined text xs (drop n xs) r (nat_lt n (length xs)) first left)
