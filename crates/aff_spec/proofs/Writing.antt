-- Chunks that are written behind others.
use Rattle.std.proofs.Common.{◌≡◌, ℕ, List, [], ◌∷◌, ◌++◌, sym, ap, ◌∙◌, append-nil, append_assoc}
use Rattle.aff_spec.specs.Bevvies.{more_appends, chunk_appends, written}
use Rattle.aff_spec.proofs.Bevvies.{written-next}

-- what is written and what comes behind it
pub written-more : (stream : List ℕ) (before chunks : List (List ℕ)) → written stream (before ++ chunks) ≡ written stream before ++ more_appends stream before chunks
written-more stream before [] = ap (written stream) (append-nil before) ∙ sym (append-nil (written stream before))
written-more stream before (c ∷ chunks) =
    ap (written stream) (sym (append_assoc before (c ∷ []) chunks))
    ∙ written-more stream (before ++ c ∷ []) chunks
    ∙ ap (λ v. v ++ more_appends stream (before ++ c ∷ []) chunks) (written-next stream before c)
    ∙ append_assoc (written stream before) (chunk_appends stream before c) (more_appends stream (before ++ c ∷ []) chunks)

-- two runs of chunks in a row
pub more_appends-append : (stream : List ℕ) (before xs ys : List (List ℕ)) → more_appends stream before (xs ++ ys) ≡ more_appends stream before xs ++ more_appends stream (before ++ xs) ys
more_appends-append stream before [] ys = ap (λ v. more_appends stream v ys) (sym (append-nil before))
more_appends-append stream before (c ∷ xs) ys =
    ap (λ v. chunk_appends stream before c ++ v) (more_appends-append stream (before ++ c ∷ []) xs ys ∙ ap (λ v. more_appends stream (before ++ c ∷ []) xs ++ more_appends stream v ys) (append_assoc before (c ∷ []) xs))
    ∙ sym (append_assoc (chunk_appends stream before c) (more_appends stream (before ++ c ∷ []) xs) (more_appends stream (before ++ c ∷ xs) ys))

-- one chunk
pub more_appends-one : (stream : List ℕ) (before : List (List ℕ)) (c : List ℕ) → more_appends stream before (c ∷ []) ≡ chunk_appends stream before c
more_appends-one stream before c = append-nil (chunk_appends stream before c)
