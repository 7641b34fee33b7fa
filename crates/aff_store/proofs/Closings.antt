-- A stream's writer and its block hashes append together what the stream's definition says.
use Rattle.std.proofs.Common.{◌≡◌, ℕ, ◌+◌, ◌*◌, ◌/◌, ◌%◌, ◌==◌, Bool, true, false, cond, List, [], ◌∷◌, ◌++◌, length, drop, map, refl, sym, ap, ◌∙◌, arith, length-append, length-drop, eq-eqb, ne_eqb, eqb-true}
use Rattle.std.specs.Prelude.{◌≢◌}
use Rattle.std.proofs.lemmas.List.{drop-append-le, drop_all, length-map, map-append}
use Rattle.aff_bevvy.specs.Written.{stored_chunk, last_index}
use Rattle.aff_blockhash.specs.Pending.{pushed, push_appends, finish_appends}
use Rattle.aff_spec.specs.Bevvies.{Sums, sums_of, index_append, hash_appends, closing_appends, chunk_appends, ending, pending_sums}
use Rattle.aff_spec.specs.Names.{bevvy_name}

not_both : (n : ℕ) → n ≡ 0 → (n == 0) ≡ false → ⊥
not_both n is not = grind (arith, is, not)

module _ (stream : List ℕ) (before : List (List ℕ)) (bevvy : ℕ) (sums : List Sums) (bevvy_is : bevvy ≡ length before / 1024) (sums_is : sums ≡ pending_sums before) where
  -- the chunks behind the last full bevvy
  rest : List (List ℕ)
  rest = drop (1024 * (length before / 1024)) before

  length_rest : length rest ≡ length before % 1024
  unfolding rest
  length_rest = omega (arith, length-drop (1024 * (length before / 1024)) before)

  length_sums : length sums ≡ length before % 1024
  unfolding rest
  length_sums = ap length sums_is ∙ length-map (drop (1024 * (length before / 1024)) before) sums_of ∙ length_rest

  module _ (chunk : List ℕ) where
    -- the appends of a chunk whose bevvy becomes full, and of another
    push_full : (length before + 1) % 1024 ≡ 0 → chunk_appends stream before chunk ≡ stored_chunk stream (length before) chunk ++ push_appends (record { stream = stream; bevvy = bevvy; sums = sums }) (sums_of chunk)
    unfolding rest
    push_full full =
        let b : ℕ = length before / 1024 in
        let n : ℕ = length before in
        let test : ((n + 1) % 1024 == 0) ≡ true = eq-eqb ((length before + 1) % 1024) 0 full in
        let last : (length sums == 1023) ≡ true = eq-eqb (length sums) 1023 (omega (arith, length_sums, full)) in
        let long : length (rest ++ chunk ∷ []) ≡ 1024 = omega (arith, length-append rest (chunk ∷ []), length_rest, full) in
        let all : map sums_of (rest ++ chunk ∷ []) ≡ sums ++ sums_of chunk ∷ [] = map-append sums_of rest (chunk ∷ []) ∙ ap (λ v. v ++ sums_of chunk ∷ []) (sym sums_is) in
        ap (λ t. (bevvy_name stream b, chunk) ∷ cond t (closing_appends stream b (rest ++ chunk ∷ [])) []) test
        ∙ (λ i. (bevvy_name stream b, chunk) ∷ index_append stream b (long i) ∷ hash_appends stream (sym bevvy_is i) (all i))
        ∙ ap (λ t. ((bevvy_name stream b, chunk) ∷ cond t (index_append stream b 1024 ∷ []) []) ++ hash_appends stream bevvy (sums ++ sums_of chunk ∷ [])) (sym test)
        ∙ ap (λ t. stored_chunk stream n chunk ++ cond t (hash_appends stream bevvy (sums ++ sums_of chunk ∷ [])) []) (sym last)

    push_open : (length before + 1) % 1024 ≢ 0 → chunk_appends stream before chunk ≡ stored_chunk stream (length before) chunk ++ push_appends (record { stream = stream; bevvy = bevvy; sums = sums }) (sums_of chunk)
    unfolding rest
    push_open more =
        let b : ℕ = length before / 1024 in
        let n : ℕ = length before in
        let test : ((n + 1) % 1024 == 0) ≡ false = ne_eqb ((length before + 1) % 1024) 0 more in
        let last : (length sums == 1023) ≡ false = ne_eqb (length sums) 1023 (λ e. more (omega (arith, length_sums, e))) in
        ap (λ t. (bevvy_name stream b, chunk) ∷ cond t (closing_appends stream b (rest ++ chunk ∷ [])) []) test
        ∙ ap (λ t. ((bevvy_name stream b, chunk) ∷ cond t (index_append stream b 1024 ∷ []) []) ++ []) (sym test)
        ∙ ap (λ t. stored_chunk stream n chunk ++ cond t (hash_appends stream bevvy (sums ++ sums_of chunk ∷ [])) []) (sym last)

    pub push_all : chunk_appends stream before chunk ≡ stored_chunk stream (length before) chunk ++ push_appends (record { stream = stream; bevvy = bevvy; sums = sums }) (sums_of chunk)
    push_all = by ((length before + 1) % 1024 == 0) refl
      where
        by : (t : Bool) → ((length before + 1) % 1024 == 0) ≡ t
            → chunk_appends stream before chunk ≡ stored_chunk stream (length before) chunk ++ push_appends (record { stream = stream; bevvy = bevvy; sums = sums }) (sums_of chunk)
        by true e = push_full (eqb-true ((length before + 1) % 1024) 0 e)
        by false e = push_open (λ full. not_both ((length before + 1) % 1024) full e)

    -- the state behind it
    length_more : length (before ++ chunk ∷ []) ≡ length before + 1
    length_more = length-append before (chunk ∷ [])

    state_full : (length before + 1) % 1024 ≡ 0 → pushed (record { stream = stream; bevvy = bevvy; sums = sums }) (sums_of chunk)
        ≡ record { stream = stream; bevvy = length (before ++ chunk ∷ []) / 1024; sums = pending_sums (before ++ chunk ∷ []) }
    state_full full =
        let last : (length sums == 1023) ≡ true = eq-eqb (length sums) 1023 (omega (arith, length_sums, full)) in
        let next : bevvy + 1 ≡ length (before ++ chunk ∷ []) / 1024 = omega (arith, bevvy_is, length_more, full) in
        let none : drop (1024 * (length (before ++ chunk ∷ []) / 1024)) (before ++ chunk ∷ []) ≡ [] = drop_all (1024 * (length (before ++ chunk ∷ []) / 1024)) (before ++ chunk ∷ []) (omega (arith, length_more, full)) in
        ap (λ t. cond t (record { stream = stream; bevvy = bevvy + 1; sums = [] }) (record { stream = stream; bevvy = bevvy; sums = sums ++ sums_of chunk ∷ [] })) last
        ∙ (λ i. record { stream = stream; bevvy = next i; sums = map sums_of (sym none i) })

    state_open : (length before + 1) % 1024 ≢ 0 → pushed (record { stream = stream; bevvy = bevvy; sums = sums }) (sums_of chunk)
        ≡ record { stream = stream; bevvy = length (before ++ chunk ∷ []) / 1024; sums = pending_sums (before ++ chunk ∷ []) }
    unfolding rest
    state_open more =
        let last : (length sums == 1023) ≡ false = ne_eqb (length sums) 1023 (λ e. more (omega (arith, length_sums, e))) in
        let same : bevvy ≡ length (before ++ chunk ∷ []) / 1024 = omega (arith, bevvy_is, length_more, more) in
        let kept : drop (1024 * bevvy) (before ++ chunk ∷ []) ≡ drop (1024 * bevvy) before ++ chunk ∷ [] = drop-append-le (1024 * bevvy) before (chunk ∷ []) (omega (arith, bevvy_is)) in
        let all : sums ++ sums_of chunk ∷ [] ≡ map sums_of (drop (1024 * bevvy) (before ++ chunk ∷ [])) =
        ap (λ v. v ++ sums_of chunk ∷ []) (sums_is ∙ ap (λ m. map sums_of (drop (1024 * m) before)) (sym bevvy_is))
        ∙ sym (map-append sums_of (drop (1024 * bevvy) before) (chunk ∷ []))
        ∙ ap (map sums_of) (sym kept) in
        ap (λ t. cond t (record { stream = stream; bevvy = bevvy + 1; sums = [] }) (record { stream = stream; bevvy = bevvy; sums = sums ++ sums_of chunk ∷ [] })) last
        ∙ ap (λ v. record { stream = stream; bevvy = bevvy; sums = v }) all
        ∙ ap (λ m. record { stream = stream; bevvy = m; sums = map sums_of (drop (1024 * m) (before ++ chunk ∷ [])) }) same

    pub state_all : pushed (record { stream = stream; bevvy = bevvy; sums = sums }) (sums_of chunk)
        ≡ record { stream = stream; bevvy = length (before ++ chunk ∷ []) / 1024; sums = pending_sums (before ++ chunk ∷ []) }
    state_all = by ((length before + 1) % 1024 == 0) refl
      where
        by : (t : Bool) → ((length before + 1) % 1024 == 0) ≡ t → pushed (record { stream = stream; bevvy = bevvy; sums = sums }) (sums_of chunk)
            ≡ record { stream = stream; bevvy = length (before ++ chunk ∷ []) / 1024; sums = pending_sums (before ++ chunk ∷ []) }
        by true e = state_full (eqb-true ((length before + 1) % 1024) 0 e)
        by false e = state_open (λ full. not_both ((length before + 1) % 1024) full e)

  -- what ends the stream
  pub end_all : ending stream before ≡ last_index stream (length before) ++ finish_appends (record { stream = stream; bevvy = bevvy; sums = sums })
  unfolding rest
  end_all = by (length before % 1024 == 0) refl
    where
      by : (t : Bool) → (length before % 1024 == 0) ≡ t → ending stream before ≡ last_index stream (length before) ++ finish_appends (record { stream = stream; bevvy = bevvy; sums = sums })
      by true e =
          let none : (length sums == 0) ≡ true = eq-eqb (length sums) 0 (length_sums ∙ eqb-true (length before % 1024) 0 e) in
          ap (λ t. cond t [] (closing_appends stream (length before / 1024) rest)) e
          ∙ ap (λ t. cond t [] (index_append stream (length before / 1024) (length before % 1024) ∷ []) ++ []) (sym e)
          ∙ ap (λ t. last_index stream (length before) ++ cond t [] (hash_appends stream bevvy sums)) (sym none)
      by false e =
          let some : (length sums == 0) ≡ false = ne_eqb (length sums) 0 (λ z. not_both (length before % 1024) (sym length_sums ∙ z) e) in
          ap (λ t. cond t [] (closing_appends stream (length before / 1024) rest)) e
          ∙ (λ i. index_append stream (length before / 1024) (length_rest i) ∷ hash_appends stream (sym bevvy_is i) (sym sums_is i))
          ∙ ap (λ t. cond t [] (index_append stream (length before / 1024) (length before % 1024) ∷ []) ++ hash_appends stream bevvy sums) (sym e)
          ∙ ap (λ t. last_index stream (length before) ++ cond t [] (hash_appends stream bevvy sums)) (sym some)
