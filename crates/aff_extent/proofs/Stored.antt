-- Which chunks are to be stored.
use Rattle.std.proofs.Common.{◌≡◌, ℕ, zero, suc, ◌+◌, ◌<◌, ◌≤◌, Bool, true, false, cond, List, [], ◌∷◌, ◌++◌, length, length-take, take, get_or, refl, sym, ap, ◌∙◌, arith}
use Rattle.std.specs.Prelude.{All, if◌then◌else◌}
use Rattle.std.proofs.lemmas.List.{take_more}
use Rattle.std.proofs.lemmas.List.Elements.{All-cons, All-nil}
use Rattle.aff_chunk.specs.declared.kind.Cut.{Cut}
use Rattle.aff_extent.specs.Drafts.{stored_from, stores}

front : (b : Bool) (j : ℕ) (rest more : List ℕ) → (if b then j ∷ (rest ++ more) else rest ++ more) ≡ (if b then j ∷ rest else rest) ++ more
front true j rest more = refl
front false j rest more = refl

-- one chunk behind others
stored_from-last : (j : ℕ) (cuts : List Cut) (c : Cut) → stored_from j (cuts ++ c ∷ []) ≡ stored_from j cuts ++ (if stores c then (j + length cuts) ∷ [] else [])
stored_from-last j [] c = ap (λ n. if stores c then n ∷ [] else []) (omega arith)
stored_from-last j (d ∷ cuts) c =
    let number : j + 1 + length cuts ≡ j + suc (length cuts) = omega arith in
    ap (λ v. if stores d then j ∷ v else v) (stored_from-last (j + 1) cuts c ∙ ap (λ n. stored_from (j + 1) cuts ++ (if stores c then n ∷ [] else [])) number)
    ∙ front (stores d) j (stored_from (j + 1) cuts) (if stores c then (j + suc (length cuts)) ∷ [] else [])

-- the next chunk of some
pub stored_from-next : (cuts : List Cut) (k : ℕ) (d : Cut) → k < length cuts → stored_from 0 (take (k + 1) cuts) ≡ stored_from 0 (take k cuts) ++ (if stores (get_or cuts k d) then k ∷ [] else [])
stored_from-next cuts k d below =
    let count : 0 + length (take k cuts) ≡ k = omega (arith, length-take k cuts, below) in
    ap (stored_from 0) (take_more cuts k d below) ∙ stored_from-last 0 (take k cuts) (get_or cuts k d)
    ∙ ap (λ n. stored_from 0 (take k cuts) ++ (if stores (get_or cuts k d) then n ∷ [] else [])) count

with_first : (n j : ℕ) (xs : List ℕ) → j < n → All (λ x. x < n) xs → (b : Bool) → All (λ x. x < n) (if b then j ∷ xs else xs)
with_first n j xs below all true = All-cons (λ x. x < n) j xs below all
with_first n j xs below all false = all

-- they are chunks of the extent
pub stored_below : (n j : ℕ) (cuts : List Cut) → j + length cuts ≤ n → All (λ x. x < n) (stored_from j cuts)
stored_below n j [] few = All-nil (λ x. x < n)
stored_below n j (c ∷ cuts) few = with_first n j (stored_from (j + 1) cuts) (omega arith) (stored_below n (j + 1) cuts (omega arith)) (stores c)

with_one : (j : ℕ) (xs : List ℕ) (n : ℕ) → length xs ≤ n → (b : Bool) → length (if b then j ∷ xs else xs) ≤ n + 1
with_one j xs n few true = omega arith
with_one j xs n few false = omega arith

-- and no more than the extent has
pub stored_few : (j : ℕ) (cuts : List Cut) → length (stored_from j cuts) ≤ length cuts
stored_few j [] = omega arith
stored_few j (c ∷ cuts) = omega (arith, with_one j (stored_from (j + 1) cuts) (length cuts) (stored_few (j + 1) cuts) (stores c))
