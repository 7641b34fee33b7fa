-- The pushes of a whole stream.
use Rattle.std.proofs.Common.{◌≡◌, ℕ, zero, suc, ◌+◌, ◌*◌, ◌<◌, ◌==◌, Bool, true, false, cond, List, [], ◌∷◌, ◌++◌, length, take, drop, refl, sym, ap, ◌∙◌, arith, append-nil, append_assoc, length-append, eqb-true}
use Rattle.std.specs.Prelude.{◌≢◌}
use Rattle.std.specs.List.{range_with_len, flat_map}
use Rattle.std.proofs.lemmas.Bool.{eqb-false}
use Rattle.std.proofs.lemmas.List.{take-append-le, take_all}
use Rattle.std.proofs.Math.Seq.{drop-append-add}
use Rattle.aff_spec.specs.Appends.{Append}
use Rattle.aff_spec.specs.Bevvies.{Sums, bevvy_count, hash_appends}
use Rattle.aff_blockhash.specs.Pending.{all_appends, bevvy_sums, stream_appends}

-- a list of numbers, each one more than in another list
flat_map-shift : {Y : Type 0} (f g : ℕ → List Y) → ((i : ℕ) → g (i + 1) ≡ f i) → (k n : ℕ) → flat_map g (range_with_len (k + 1) n) ≡ flat_map f (range_with_len k n)
flat_map-shift f g same k zero = refl
flat_map-shift f g same k (suc n) = λ i. same k i ++ flat_map-shift f g same (k + 1) n i

-- the block hashes of bevvies from b on
abbrev appends_from : List ℕ → ℕ → List Sums → List Append
appends_from stream b sums = flat_map (λ i. hash_appends stream (b + i) (bevvy_sums sums i)) (range_with_len 0 (bevvy_count (length sums)))

-- a full bevvy in front
appends_from-full : (stream : List ℕ) (b : ℕ) (full rest : List Sums) → length full ≡ 1024 → appends_from stream b (full ++ rest) ≡ hash_appends stream b full ++ appends_from stream (b + 1) rest
appends_from-full stream b full rest long =
    let all : List Sums = full ++ rest in
    let count : bevvy_count (length (full ++ rest)) ≡ suc (bevvy_count (length rest)) = omega (arith, long, length-append full rest) in
    let first : bevvy_sums (full ++ rest) 0 ≡ full = take-append-le 1024 full rest (omega (arith, long)) ∙ take_all 1024 full (omega (arith, long)) in
    let later : (i : ℕ) → bevvy_sums (full ++ rest) (i + 1) ≡ bevvy_sums rest i = λ i.
    let place : 1024 * (i + 1) ≡ length full + 1024 * i = omega (arith, long) in
    ap (λ n. take 1024 (drop n all)) place ∙ ap (take 1024) (drop-append-add full rest (1024 * i)) in
    let same : (i : ℕ) → hash_appends stream (b + (i + 1)) (bevvy_sums (full ++ rest) (i + 1)) ≡ hash_appends stream (b + 1 + i) (bevvy_sums rest i) = λ i.
    let number : b + (i + 1) ≡ b + 1 + i = omega arith in
    (λ j. hash_appends stream (number j) (later i j)) in
    let number : b + 0 ≡ b = omega arith in
    ap (λ n. flat_map (λ i. hash_appends stream (b + i) (bevvy_sums all i)) (range_with_len 0 n)) count
    ∙ (λ j. hash_appends stream (number j) (first j) ++ flat_map-shift (λ i. hash_appends stream (b + 1 + i) (bevvy_sums rest i)) (λ i. hash_appends stream (b + i) (bevvy_sums all i)) same 0 (bevvy_count (length rest)) j)

-- no chunk is left
appends_from-none : (stream : List ℕ) (b : ℕ) (sums : List Sums) → length sums ≡ 0 → appends_from stream b sums ≡ []
appends_from-none stream b sums none =
    let count : bevvy_count (length sums) ≡ 0 = omega (arith, none) in
    ap (λ n. flat_map (λ i. hash_appends stream (b + i) (bevvy_sums sums i)) (range_with_len 0 n)) count

-- chunks of one bevvy are left
appends_from-few : (stream : List ℕ) (b : ℕ) (sums : List Sums) → length sums ≢ 0 → length sums < 1024 → appends_from stream b sums ≡ hash_appends stream b sums
appends_from-few stream b sums some few =
    let count : bevvy_count (length sums) ≡ 1 = omega (arith, some, few) in
    let number : b + 0 ≡ b = omega arith in
    let whole : bevvy_sums sums 0 ≡ sums = take_all 1024 sums (omega (arith, few)) in
    ap (λ n. flat_map (λ i. hash_appends stream (b + i) (bevvy_sums sums i)) (range_with_len 0 n)) count
    ∙ (λ j. hash_appends stream (number j) (whole j) ++ [])

finish-from : (stream : List ℕ) (b : ℕ) (sums : List Sums) → length sums < 1024 → (t : Bool) → (length sums == 0) ≡ t → cond t [] (hash_appends stream b sums) ≡ appends_from stream b sums
finish-from stream b sums few true e = sym (appends_from-none stream b sums (eqb-true (length sums) 0 e))
finish-from stream b sums few false e = sym (appends_from-few stream b sums (eqb-false (length sums) 0 e) few)

-- one chunk more, and what comes behind it
push-from : (stream : List ℕ) (b : ℕ) (before : List Sums) (s : Sums) (sums : List Sums) → length before < 1024
    → all_appends (record { stream = stream; bevvy = b + 1; sums = [] }) sums ≡ appends_from stream (b + 1) sums
    → (length (before ++ s ∷ []) < 1024 → all_appends (record { stream = stream; bevvy = b; sums = before ++ s ∷ [] }) sums ≡ appends_from stream b ((before ++ s ∷ []) ++ sums))
    → (t : Bool) → (length before == 1023) ≡ t
    → cond t (hash_appends stream b (before ++ s ∷ [])) [] ++ all_appends (cond t (record { stream = stream; bevvy = b + 1; sums = [] }) (record { stream = stream; bevvy = b; sums = before ++ s ∷ [] })) sums
    ≡ appends_from stream b ((before ++ s ∷ []) ++ sums)
push-from stream b before s sums few next more true e =
    let full : length (before ++ s ∷ []) ≡ 1024 = omega (arith, length-append before (s ∷ []), eqb-true (length before) 1023 e) in
    ap (λ v. hash_appends stream b (before ++ s ∷ []) ++ v) next ∙ sym (appends_from-full stream b (before ++ s ∷ []) sums full)
push-from stream b before s sums few next more false e = more (omega (arith, few, length-append before (s ∷ []), eqb-false (length before) 1023 e))

-- digests that are pushed behind some of a bevvy
all_appends-from : (stream : List ℕ) (b : ℕ) (before sums : List Sums) → length before < 1024 → all_appends (record { stream = stream; bevvy = b; sums = before }) sums ≡ appends_from stream b (before ++ sums)
all_appends-from stream b before [] few = finish-from stream b before few (length before == 0) refl ∙ ap (appends_from stream b) (sym (append-nil before))
all_appends-from stream b before (s ∷ sums) few =
    push-from stream b before s sums few (all_appends-from stream (b + 1) [] sums (omega arith)) (all_appends-from stream b (before ++ s ∷ []) sums) (length before == 1023) refl
    ∙ ap (appends_from stream b) (append_assoc before (s ∷ []) sums)

pub all_appends-stream : (stream : List ℕ) (sums : List Sums) → all_appends (record { stream = stream; bevvy = 0; sums = [] }) sums ≡ stream_appends stream sums
all_appends-stream stream sums = all_appends-from stream 0 [] sums (omega arith) ∙ from_first (bevvy_count (length sums)) 0
  where
    from_first : (n k : ℕ) → flat_map (λ i. hash_appends stream (0 + i) (bevvy_sums sums i)) (range_with_len k n) ≡ flat_map (λ i. hash_appends stream i (bevvy_sums sums i)) (range_with_len k n)
    from_first zero k = refl
    from_first (suc n) k =
        let number : 0 + k ≡ k = omega arith in
        λ j. hash_appends stream (number j) (bevvy_sums sums k) ++ from_first n (k + 1) j
