-- A stream that is written chunk by chunk.
use Rattle.std.proofs.Common.{◌≡◌, ℕ, zero, suc, ◌+◌, ◌*◌, ◌/◌, ◌%◌, ◌≤◌, ◌==◌, Bool, true, false, cond, List, [], ◌∷◌, ◌++◌, length, take, drop, refl, sym, ap, ◌∙◌, arith, append-nil, append_assoc, length-append, length-drop, eq-eqb, ne_eqb, eqb-true}
use Rattle.std.specs.Prelude.{◌≢◌}
use Rattle.std.specs.List.{range_with_len, flat_map}
use Rattle.std.proofs.lemmas.List.{drop-append-le, take-append-le, take_all, drop_all}
use Rattle.std.proofs.lemmas.Grind.{flat_map-append}
use Rattle.aff_spec.specs.Appends.{Append, appends_to}
use Rattle.aff_spec.specs.Bevvies.{bevvy_of, bevvy_count, closing_appends, bevvy_appends, bevvies_appends, written, ending, chunk_appends}
use Rattle.aff_spec.specs.Names.{bevvy_name}
use Rattle.aff_spec.proofs.Appending.{appends_to-append}

pub range_more : (k n : ℕ) → range_with_len k (n + 1) ≡ range_with_len k n ++ (k + n) ∷ []
range_more k zero = ap (λ m. m ∷ []) (omega arith)
range_more k (suc n) =
    let count : suc n + 1 ≡ suc (n + 1) = omega arith in
    let last : k + 1 + n ≡ k + suc n = omega arith in
    ap (range_with_len k) count ∙ ap (λ v. k ∷ v) (range_more (k + 1) n ∙ ap (λ m. range_with_len (k + 1) n ++ m ∷ []) last)

-- the appends of some first bevvies
firsts : List ℕ → List (List ℕ) → ℕ → List Append
firsts stream chunks k = flat_map (bevvy_appends stream chunks) (range_with_len 0 k)

firsts-next : (stream : List ℕ) (chunks : List (List ℕ)) (k : ℕ) → firsts stream chunks (k + 1) ≡ firsts stream chunks k ++ bevvy_appends stream chunks k
unfolding firsts
firsts-next stream chunks k =
    ap (flat_map (bevvy_appends stream chunks)) (range_more 0 k)
    ∙ flat_map-append (bevvy_appends stream chunks) (range_with_len 0 k) ((0 + k) ∷ [])
    ∙ ap (λ v. firsts stream chunks k ++ v) (append-nil (bevvy_appends stream chunks (0 + k)) ∙ ap (bevvy_appends stream chunks) (omega arith))

-- chunks behind a full bevvy are not in it
bevvy_of-append : (xs ys : List (List ℕ)) (b : ℕ) → 1024 * (b + 1) ≤ length xs → bevvy_of (xs ++ ys) b ≡ bevvy_of xs b
bevvy_of-append xs ys b full =
    ap (take 1024) (drop-append-le (1024 * b) xs ys (omega (arith, full))) ∙ take-append-le 1024 (drop (1024 * b) xs) ys (omega (arith, full, length-drop (1024 * b) xs))

same_bevvy : (stream : List ℕ) (xs ys : List (List ℕ)) (b : ℕ) → 1024 * (b + 1) ≤ length xs → bevvy_appends stream (xs ++ ys) b ≡ bevvy_appends stream xs b
same_bevvy stream xs ys b full = ap (λ v. appends_to (bevvy_name stream b) v ++ closing_appends stream b v) (bevvy_of-append xs ys b full)

firsts-append : (stream : List ℕ) (xs ys : List (List ℕ)) (k : ℕ) → 1024 * k ≤ length xs → firsts stream (xs ++ ys) k ≡ firsts stream xs k
unfolding firsts
firsts-append stream xs ys zero low = refl
firsts-append stream xs ys (suc k) low =
    let one : suc k ≡ k + 1 = omega arith in
    ap (firsts stream (xs ++ ys)) one ∙ firsts-next stream (xs ++ ys) k
    ∙ (λ i. firsts-append stream xs ys k (omega (arith, low)) i ++ same_bevvy stream xs ys k (omega (arith, low)) i)
    ∙ sym (firsts-next stream xs k) ∙ ap (firsts stream xs) (sym one)

-- what is written: full bevvies, and chunks behind them
rest_of : List ℕ → List (List ℕ) → ℕ → List Append
rest_of stream chunks b = appends_to (bevvy_name stream b) (drop (1024 * b) chunks)

written_is : (stream : List ℕ) (chunks : List (List ℕ)) (b : ℕ) → length chunks / 1024 ≡ b → written stream chunks ≡ firsts stream chunks b ++ rest_of stream chunks b
unfolding firsts rest_of
written_is stream chunks b e = ap (λ k. flat_map (bevvy_appends stream chunks) (range_with_len 0 k) ++ appends_to (bevvy_name stream k) (drop (1024 * k) chunks)) e

rest_of-append : (stream : List ℕ) (xs ys : List (List ℕ)) (b : ℕ) → 1024 * b ≤ length xs → rest_of stream (xs ++ ys) b ≡ rest_of stream xs b ++ appends_to (bevvy_name stream b) ys
unfolding rest_of
rest_of-append stream xs ys b low = ap (appends_to (bevvy_name stream b)) (drop-append-le (1024 * b) xs ys low) ∙ appends_to-append (bevvy_name stream b) (drop (1024 * b) xs) ys

module _ (stream : List ℕ) (chunks : List (List ℕ)) (chunk : List ℕ) where
  more : List (List ℕ)
  more = chunks ++ chunk ∷ []

  length_more : length more ≡ length chunks + 1
  unfolding more
  length_more = length-append chunks (chunk ∷ [])

  -- the chunk behind what was written
  one_more : (b : ℕ) → b ≡ length chunks / 1024 → firsts stream more b ++ rest_of stream more b ≡ written stream chunks ++ (bevvy_name stream b, chunk) ∷ []
  unfolding more
  one_more b e =
      (λ i. firsts-append stream chunks (chunk ∷ []) b (omega (arith, e)) i ++ rest_of-append stream chunks (chunk ∷ []) b (omega (arith, e)) i)
      ∙ sym (append_assoc (firsts stream chunks b) (rest_of stream chunks b) ((bevvy_name stream b, chunk) ∷ []))
      ∙ ap (λ v. v ++ (bevvy_name stream b, chunk) ∷ []) (sym (written_is stream chunks b (sym e)))

  -- its bevvy is not full
  next_open : (length chunks + 1) % 1024 ≢ 0 → written stream more ≡ written stream chunks ++ chunk_appends stream chunks chunk
  next_open not_full =
      let b : ℕ = length chunks / 1024 in
      let same : length more / 1024 ≡ length chunks / 1024 = omega (arith, length_more, not_full) in
      written_is stream more (length chunks / 1024) same ∙ one_more (length chunks / 1024) refl
      ∙ ap (λ t. written stream chunks ++ (bevvy_name stream b, chunk) ∷ cond t (closing_appends stream b (drop (1024 * b) chunks ++ chunk ∷ [])) []) (sym (ne_eqb ((length chunks + 1) % 1024) 0 not_full))

  -- its bevvy is full
  next_full : (length chunks + 1) % 1024 ≡ 0 → written stream more ≡ written stream chunks ++ chunk_appends stream chunks chunk
  unfolding more firsts rest_of
  next_full full =
      let b : ℕ = length chunks / 1024 in
      let last : length more / 1024 ≡ length chunks / 1024 + 1 = omega (arith, length_more, full) in
      let none : drop (1024 * (length chunks / 1024 + 1)) more ≡ [] = drop_all (1024 * (length chunks / 1024 + 1)) more (omega (arith, length_more, full)) in
      let kept : drop (1024 * (length chunks / 1024)) more ≡ drop (1024 * (length chunks / 1024)) chunks ++ chunk ∷ [] = drop-append-le (1024 * (length chunks / 1024)) chunks (chunk ∷ []) (omega arith) in
      let whole : bevvy_of more (length chunks / 1024) ≡ drop (1024 * (length chunks / 1024)) more = take_all 1024 (drop (1024 * (length chunks / 1024)) more) (omega (arith, length-drop (1024 * (length chunks / 1024)) more, length_more)) in
      written_is stream more (b + 1) last
      ∙ ap (λ v. firsts stream more (b + 1) ++ appends_to (bevvy_name stream (b + 1)) v) none
      ∙ append-nil (firsts stream more (b + 1))
      ∙ firsts-next stream more b
      ∙ ap (λ v. firsts stream more b ++ (appends_to (bevvy_name stream b) v ++ closing_appends stream b v)) whole
      ∙ sym (append_assoc (firsts stream more b) (rest_of stream more b) (closing_appends stream b (drop (1024 * b) more)))
      ∙ (λ i. one_more b refl i ++ closing_appends stream b (kept i))
      ∙ append_assoc (written stream chunks) ((bevvy_name stream b, chunk) ∷ []) (closing_appends stream b (drop (1024 * b) chunks ++ chunk ∷ []))
      ∙ ap (λ t. written stream chunks ++ (bevvy_name stream b, chunk) ∷ cond t (closing_appends stream b (drop (1024 * b) chunks ++ chunk ∷ [])) []) (sym (eq-eqb ((length chunks + 1) % 1024) 0 full))

  -- one chunk more is written
  pub written-next : written stream (chunks ++ chunk ∷ []) ≡ written stream chunks ++ chunk_appends stream chunks chunk
  unfolding more
  written-next = by ((length chunks + 1) % 1024 == 0) refl
    where
      by : (t : Bool) → ((length chunks + 1) % 1024 == 0) ≡ t → written stream more ≡ written stream chunks ++ chunk_appends stream chunks chunk
      by true e = next_full (eqb-true ((length chunks + 1) % 1024) 0 e)
      by false e = next_open (λ full. not_both ((length chunks + 1) % 1024) full e)
        where
          not_both : (n : ℕ) → n ≡ 0 → (n == 0) ≡ false → ⊥
          not_both n is not = grind (arith, is, not)

-- what is written, and what ends it, are the appends of the stream
pub written-ending : (stream : List ℕ) (chunks : List (List ℕ)) → written stream chunks ++ ending stream chunks ≡ bevvies_appends stream chunks
unfolding firsts rest_of
written-ending stream chunks = by (length chunks % 1024 == 0) refl
  where
    by : (t : Bool) → (length chunks % 1024 == 0) ≡ t → written stream chunks ++ ending stream chunks ≡ bevvies_appends stream chunks
    by true e =
        let full : length chunks % 1024 ≡ 0 = eqb-true (length chunks % 1024) 0 e in
        let count : length chunks / 1024 ≡ bevvy_count (length chunks) = omega (arith, full) in
        let none : drop (1024 * (length chunks / 1024)) chunks ≡ [] = drop_all (1024 * (length chunks / 1024)) chunks (omega (arith, full)) in
        ap (λ t. written stream chunks ++ cond t [] (closing_appends stream (length chunks / 1024) (drop (1024 * (length chunks / 1024)) chunks))) e
        ∙ append-nil (written stream chunks)
        ∙ ap (λ v. firsts stream chunks (length chunks / 1024) ++ appends_to (bevvy_name stream (length chunks / 1024)) v) none
        ∙ append-nil (firsts stream chunks (length chunks / 1024))
        ∙ ap (firsts stream chunks) count
    by false e =
        let b : ℕ = length chunks / 1024 in
        let unfilled : length chunks % 1024 ≢ 0 = λ z. not_both (length chunks % 1024) z e in
        let count : length chunks / 1024 + 1 ≡ bevvy_count (length chunks) = omega (arith, unfilled) in
        let whole : bevvy_of chunks (length chunks / 1024) ≡ drop (1024 * (length chunks / 1024)) chunks = take_all 1024 (drop (1024 * (length chunks / 1024)) chunks) (omega (arith, length-drop (1024 * (length chunks / 1024)) chunks)) in
        ap (λ t. written stream chunks ++ cond t [] (closing_appends stream b (drop (1024 * b) chunks))) e
        ∙ append_assoc (firsts stream chunks b) (rest_of stream chunks b) (closing_appends stream b (drop (1024 * b) chunks))
        ∙ ap (λ v. firsts stream chunks b ++ (appends_to (bevvy_name stream b) v ++ closing_appends stream b v)) (sym whole)
        ∙ sym (firsts-next stream chunks b)
        ∙ ap (firsts stream chunks) count
      where
        not_both : (n : ℕ) → n ≡ 0 → (n == 0) ≡ false → ⊥
        not_both n is not = grind (arith, is, not)
