-- The lengths of listed segments.
use Rattle.std.proofs.Common.{◌≡◌, ℕ, ◌+◌, ◌*◌, ◌<◌, ◌^◌, List, [], ◌∷◌, ◌++◌, length, get_or, below_more, sym, ap, subst, ◌∙◌, arith}
use Rattle.std.specs.Prelude.{Some, IsSomeAnd}
use Rattle.std.proofs.Math.ListN.{get_or-append}
use Rattle.std.proofs.lemmas.List.{get_or-append-add}
use Rattle.aff_spec.specs.BlockHashes.{chunks_in}
use Rattle.aff_spec.specs.Names.{bevvy_name, index_name}
use Rattle.aff_bevvy.specs.Segments.{Lengths, IsBevvy}

-- a bevvy whose length is known
pub is_bevvy : (len : Lengths) (stream : List ℕ) (n b bytes : ℕ) → len (bevvy_name stream b) ≡ Some bytes → bytes < 2 ^ 64 → len (index_name stream b) ≡ Some (12 * chunks_in n b) → IsBevvy len stream n b
is_bevvy len stream n b bytes is small index = record { bevvy = subst (λ o. IsSomeAnd o (λ bytes. bytes < 2 ^ 64)) (sym is) small; index = index }

-- the length of the next bevvy behind those of some first ones
pub one_length_more : (len : Lengths) (stream : List ℕ) (b bytes : ℕ) (lens more : List ℕ) → more ≡ lens ++ bytes ∷ [] → length lens ≡ b
    → ((k : ℕ) → k < b → len (bevvy_name stream k) ≡ Some (get_or lens k 0)) → len (bevvy_name stream b) ≡ Some bytes
    → (k : ℕ) → k < b + 1 → len (bevvy_name stream k) ≡ Some (get_or more k 0)
one_length_more len stream b bytes lens more is all each next =
    let last : get_or (lens ++ bytes ∷ []) b 0 ≡ bytes = ap (λ n. get_or (lens ++ bytes ∷ []) n 0) (sym all ∙ omega arith) ∙ get_or-append-add lens (bytes ∷ []) 0 0 in
    below_more _ _
    (λ k low. each k low ∙ ap Some (sym (get_or-append lens (bytes ∷ []) 0 k (omega (arith, low, all))) ∙ ap (λ v. get_or v k 0) (sym is)))
    (next ∙ ap Some (sym last ∙ ap (λ v. get_or v b 0) (sym is)))
