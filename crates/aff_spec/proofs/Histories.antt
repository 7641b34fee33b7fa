-- The lines of histories.
use Rattle.std.proofs.Common.{◌≡◌, ℕ, ◌+◌, List, [], ◌∷◌, ◌++◌, length, sym, ap, ◌∙◌, arith, append-nil, append_assoc}
use Rattle.aff_model.specs.History.{Published}
use Rattle.aff_spec.specs.Report.{publication_line, publication_lines}

-- the lines of a history with one publication more
pub publication_lines-append : (front : ℕ) (history : List Published) (p : Published)
    → publication_lines front (history ++ p ∷ []) ≡ publication_lines front history ++ publication_line (front + length history) p
publication_lines-append front [] p = append-nil (publication_line front p) ∙ ap (λ n. publication_line n p) (omega arith)
publication_lines-append front (q ∷ history) p =
    ap (λ v. publication_line front q ++ v) (publication_lines-append (front + 1) history p ∙ ap (λ n. publication_lines (front + 1) history ++ publication_line n p) (omega arith))
    ∙ sym (append_assoc (publication_line front q) (publication_lines (front + 1) history) (publication_line (front + length (q ∷ history)) p))
