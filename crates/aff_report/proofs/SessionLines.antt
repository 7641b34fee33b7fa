-- The lines of sessions, grown at their end.
use Rattle.std.proofs.Common.{◌≡◌, ℕ, ◌+◌, ◌<◌, List, [], ◌∷◌, ◌++◌, length, take, get_or, map, sym, ap, ◌∙◌, arith, append_assoc, append-nil}
use Rattle.std.specs.List.{flat_map}
use Rattle.std.proofs.lemmas.List.{length-map, length-take, map-append, take_more}
use Rattle.aff_script.specs.Answered.{Answered}
use Rattle.aff_report.specs.Sessions.{answer_lines, session_line, session_lines}

-- the lines of the session of a number
abbrev of_session : ℕ → List Answered → List ℕ
of_session number answers = session_line number ++ flat_map answer_lines answers

-- the lines with one session more
session_lines-append : (number : ℕ) (sessions : List (List Answered)) (answers : List Answered)
    → session_lines number (sessions ++ answers ∷ []) ≡ session_lines number sessions ++ of_session (number + length sessions) answers
session_lines-append number [] answers =
    append-nil (of_session number answers) ∙ ap (λ n. of_session n answers) (omega arith)
session_lines-append number (first ∷ sessions) answers =
    ap (λ v. of_session number first ++ v) (session_lines-append (number + 1) sessions answers)
    ∙ sym (append_assoc (of_session number first) (session_lines (number + 1) sessions) (of_session (number + 1 + length sessions) answers))
    ∙ ap (λ n. (of_session number first ++ session_lines (number + 1) sessions) ++ of_session n answers) (omega arith)

-- the lines up to a session, with its own behind them
pub session_lines-next : {A : Type 0} (view : A → List Answered) (xs : List A) (k : ℕ) (d : A) → k < length xs
    → session_lines 1 (map view (take k xs)) ++ (session_line (k + 1) ++ flat_map answer_lines (view (get_or xs k d))) ≡ session_lines 1 (map view (take (k + 1) xs))
session_lines-next view xs k d below =
    let front : k + 1 ≡ 1 + length (map view (take k xs)) = omega (arith, length-map (take k xs) view, length-take k xs, below) in
    ap (λ n. session_lines 1 (map view (take k xs)) ++ of_session n (view (get_or xs k d))) front
    ∙ sym (session_lines-append 1 (map view (take k xs)) (view (get_or xs k d)))
    ∙ ap (session_lines 1) (sym (map-append view (take k xs) (get_or xs k d ∷ [])))
    ∙ ap (λ v. session_lines 1 (map view v)) (sym (take_more xs k d below))
