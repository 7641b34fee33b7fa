-- Which index a call appends.
use Rattle.std.proofs.Common.{◌≡◌, ℕ, ◌+◌, ◌/◌, ◌%◌, ◌≤◌, List, [], ◌∷◌, cond, sym, ap, ◌∙◌, arith, eq-eqb}
use Rattle.aff_spec.specs.Bevvies.{index_append}
use Rattle.aff_bevvy.specs.Written.{full_index}

-- behind the last chunk of a bevvy
pub full_index-last : (stream : List ℕ) (c n : ℕ) → n ≡ c % 1024 + 1 → 1024 ≤ n → index_append stream (c / 1024) n ∷ [] ≡ full_index stream c
full_index-last stream c n is last =
    let whole : n ≡ 1024 = omega (arith, is, last) in
    let full : (c + 1) % 1024 ≡ 0 = omega (arith, is, last) in
    ap (λ m. index_append stream (c / 1024) m ∷ []) whole
    ∙ ap (λ t. cond t (index_append stream (c / 1024) 1024 ∷ []) []) (sym (eq-eqb ((c + 1) % 1024) 0 full))
