-- The lines of examiners, grown at their end.
use Rattle.std.proofs.Common.{◌≡◌, ℕ, ◌+◌, ◌<◌, List, [], ◌∷◌, ◌++◌, length, take, get_or, map, sym, ap, ◌∙◌, arith, append_assoc, append-nil}
use Rattle.std.proofs.lemmas.List.{length-map, length-take, map-append, take_more}
use Rattle.aff_report.specs.Examiners.{examiner_line, examiner_lines}

-- the lines with one finding more
examiner_lines-append : (number : ℕ) (findings : List (List ℕ)) (finding : List ℕ)
    → examiner_lines number (findings ++ finding ∷ []) ≡ examiner_lines number findings ++ examiner_line (number + length findings) finding
examiner_lines-append number [] finding =
    append-nil (examiner_line number finding) ∙ ap (λ n. examiner_line n finding) (omega arith)
examiner_lines-append number (first ∷ findings) finding =
    ap (λ v. examiner_line number first ++ v) (examiner_lines-append (number + 1) findings finding)
    ∙ sym (append_assoc (examiner_line number first) (examiner_lines (number + 1) findings) (examiner_line (number + 1 + length findings) finding))
    ∙ ap (λ n. (examiner_line number first ++ examiner_lines (number + 1) findings) ++ examiner_line n finding) (omega arith)

-- the lines up to a finding, with its own behind them
pub examiner_lines-next : {A : Type 0} (view : A → List ℕ) (xs : List A) (k : ℕ) (d : A) → k < length xs
    → examiner_lines 1 (map view (take k xs)) ++ examiner_line (k + 1) (view (get_or xs k d)) ≡ examiner_lines 1 (map view (take (k + 1) xs))
examiner_lines-next view xs k d below =
    let front : k + 1 ≡ 1 + length (map view (take k xs)) = omega (arith, length-map (take k xs) view, length-take k xs, below) in
    ap (λ n. examiner_lines 1 (map view (take k xs)) ++ examiner_line n (view (get_or xs k d))) front
    ∙ sym (examiner_lines-append 1 (map view (take k xs)) (view (get_or xs k d)))
    ∙ ap (examiner_lines 1) (sym (map-append view (take k xs) (get_or xs k d ∷ [])))
    ∙ ap (λ v. examiner_lines 1 (map view v)) (sym (take_more xs k d below))
