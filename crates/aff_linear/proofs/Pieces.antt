-- Bytes that are fed piece by piece.
use Rattle.std.proofs.Common.{◌≡◌, ℕ, zero, suc, ◌+◌, ◌<◌, ◌≤◌, List, [], ◌∷◌, ◌++◌, length, map, get_or, refl, sym, ap, ◌∙◌, arith, append-nil, append_assoc}
use Rattle.std.specs.Prelude.{replicate}
use Rattle.std.specs.List.{range_with_len}
use Rattle.std.proofs.lemmas.List.{ext_get_or, length-replicate, get_or-replicate}
use Rattle.std.proofs.lemmas.List.FromFn.{length-map-range_with_len, get_or-map-range_with_len, map-range_with_len_more}
use Rattle.aff_map.specs.declared.target.Target.TheVariants.{Zero}
use Rattle.aff_map.specs.Symbol.{symbol_of}

-- two functions that agree in a range
pub alike_in : (f g : ℕ → ℕ) (at n : ℕ) → ((i : ℕ) → at ≤ i → i < at + n → f i ≡ g i) → map f (range_with_len at n) ≡ map g (range_with_len at n)
alike_in f g at n same =
    ext_get_or 0 (map f (range_with_len at n)) (map g (range_with_len at n)) (length-map-range_with_len f at n ∙ sym (length-map-range_with_len g at n)) (λ k below.
    let low : k < n = omega (arith, below, length-map-range_with_len f at n) in
    get_or-map-range_with_len f at n k (at + k) 0 low refl ∙ same (at + k) (omega arith) (omega (arith, low)) ∙ sym (get_or-map-range_with_len g at n k (at + k) 0 low refl))

-- a list that has a function's values
pub is_range : (f : ℕ → ℕ) (at n : ℕ) (xs : List ℕ) → length xs ≡ n → ((k : ℕ) → k < n → get_or xs k 0 ≡ f (at + k)) → xs ≡ map f (range_with_len at n)
is_range f at n xs count each =
    ext_get_or 0 xs (map f (range_with_len at n)) (count ∙ sym (length-map-range_with_len f at n)) (λ k below.
    let low : k < n = omega (arith, below, count) in
    each k low ∙ sym (get_or-map-range_with_len f at n k (at + k) 0 low refl))

-- zeros as a symbolic stream
pub zeros_are : (at n : ℕ) → replicate n 0 ≡ map (symbol_of Zero) (range_with_len at n)
zeros_are at n = is_range (symbol_of Zero) at n (replicate n 0) (length-replicate {A = ℕ} n 0) (λ k low. get_or-replicate n k 0 0 low)

-- two pieces in a row
pub range_joined : (f : ℕ → ℕ) (at n m : ℕ) → map f (range_with_len at (n + m)) ≡ map f (range_with_len at n) ++ map f (range_with_len (at + n) m)
range_joined f at n zero =
    let none : n + 0 ≡ n = omega arith in
    ap (λ k. map f (range_with_len at k)) none ∙ sym (append-nil (map f (range_with_len at n)))
range_joined f at n (suc m) =
    let more : n + suc m ≡ n + m + 1 = omega arith in
    let last : suc m ≡ m + 1 = omega arith in
    ap (λ k. map f (range_with_len at k)) more
    ∙ map-range_with_len_more f at (n + m) (at + (n + m)) refl
    ∙ ap (λ v. v ++ f (at + (n + m)) ∷ []) (range_joined f at n m)
    ∙ append_assoc (map f (range_with_len at n)) (map f (range_with_len (at + n) m)) (f (at + (n + m)) ∷ [])
    ∙ ap (λ v. map f (range_with_len at n) ++ v) (sym (ap (λ k. map f (range_with_len (at + n) k)) last ∙ map-range_with_len_more f (at + n) m (at + (n + m)) (omega arith)))

-- what is fed behind what was fed
pub fed_more : (f : ℕ → ℕ) (at n m : ℕ) (start before after piece : List ℕ) → before ≡ start ++ map f (range_with_len at n) → after ≡ before ++ piece → piece ≡ map f (range_with_len (at + n) m)
    → after ≡ start ++ map f (range_with_len at (n + m))
fed_more f at n m start before after piece is next more =
    next ∙ (λ i. is i ++ more i) ∙ append_assoc start (map f (range_with_len at n)) (map f (range_with_len (at + n) m)) ∙ ap (λ v. start ++ v) (sym (range_joined f at n m))
