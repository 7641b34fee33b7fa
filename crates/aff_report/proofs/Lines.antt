-- The lines of publications, grown at their end.
use Rattle.std.proofs.Common.{◌≡◌, ℕ, ◌+◌, ◌<◌, List, [], ◌∷◌, ◌++◌, length, take, get_or, map, sym, ap, ◌∙◌, arith, codes, append_assoc}
use Rattle.std.specs.Prelude.{if◌then◌else◌}
use Rattle.std.specs.Arc.{arc_value}
use Rattle.std.specs.Fmt.{decimal}
use Rattle.std.specs.declared.sync.Arc.{Arc}
use Rattle.std.proofs.lemmas.List.{length-map, length-take, map-append, take_more}
use Rattle.aff_model.specs.declared.publication.Place.{Place}
use Rattle.aff_model.specs.History.{Part, Published, publication_of}
use Rattle.aff_model.specs.Pieces.{published}
use Rattle.aff_spec.specs.Report.{bad_text, places_text, publication_line, publication_lines}
use Rattle.aff_report.specs.Words.{line_of_words, numbers_text}
use Rattle.aff_spec.proofs.Histories.{publication_lines-append}

-- the lines with one publication more
lines-next : {A : Type 0} (view : A → Published) (xs : List A) (k : ℕ) (d : A) → k < length xs
    → publication_lines 1 (map view (take (k + 1) xs)) ≡ publication_lines 1 (map view (take k xs)) ++ publication_line (k + 1) (view (get_or xs k d))
lines-next {A} view xs k d below =
    let front : 1 + length (map view (take k xs)) ≡ k + 1 = omega (arith, length-map (take k xs) view, length-take k xs, below) in
    ap (λ v. publication_lines 1 (map view v)) (take_more xs k d below)
    ∙ ap (publication_lines 1) (map-append view (take k xs) (get_or xs k d ∷ []))
    ∙ publication_lines-append 1 (map view (take k xs)) (view (get_or xs k d))
    ∙ ap (λ n. publication_lines 1 (map view (take k xs)) ++ publication_line n (view (get_or xs k d))) front

-- the text behind some head, with one publication more
pub lines-written : {A : Type 0} (view : A → Published) (xs : List A) (k : ℕ) (d : A) (head old new line : List ℕ) → k < length xs
    → old ≡ head ++ publication_lines 1 (map view (take k xs)) → line ≡ publication_line (k + 1) (view (get_or xs k d)) → new ≡ old ++ line
    → new ≡ head ++ publication_lines 1 (map view (take (k + 1) xs))
lines-written {A} view xs k d head old new line below before is_line written =
    let next = publication_line (k + 1) (view (get_or xs k d)) in
    written ∙ (λ i. before i ++ is_line i)
    ∙ append_assoc head (publication_lines 1 (map view (take k xs))) next
    ∙ ap (λ v. head ++ v) (sym (lines-next view xs k d below))

-- the line of a piece, from the texts of what was read of it
pub line_of_piece : {R : Type 0} (front : ℕ) (v w : Part R) (numbers how bad places sectors : List ℕ) (chunks : List Place) → w ≡ v → sectors ≡ w.bad → chunks ≡ w.places
    → numbers ≡ numbers_text front w.extent w.claimant → how ≡ (if w.swept then codes "swept" else codes "own") → bad ≡ bad_text sectors → places ≡ places_text chunks
    → line_of_words numbers how bad places ≡ publication_line front (publication_of v)
line_of_piece {R} front v w numbers how bad places sectors chunks same is_sectors is_chunks is_numbers is_how is_bad is_places =
    (λ i. line_of_words (is_numbers i) (is_how i) (is_bad i) (is_places i))
    ∙ in_one front w.extent w.claimant (if w.swept then codes "swept" else codes "own") (bad_text sectors) (places_text chunks)
    ∙ (λ i. publication_line front (record { extent = w.extent; claimant = w.claimant; swept = w.swept; bad = is_sectors i; places = is_chunks i }))
    ∙ ap (λ (u : Part R). publication_line front (publication_of u)) same
  where
    in_one : (f e c : ℕ) (h b p : List ℕ) → line_of_words (numbers_text f e c) h b p
        ≡ codes "publication " ++ (decimal f ++ (codes " " ++ (decimal e ++ (codes " " ++ (decimal c ++ (codes " " ++ (h ++ (codes " " ++ (b ++ (codes " " ++ (p ++ codes "\n")))))))))))
    in_one f e c h b p = simp append_assoc

-- the line of a shared piece, from what was read of it
pub line_of_shared : {R Z : Type 0} (front : ℕ) (pieces : List (Arc (Part R) Z)) (k : ℕ) (a : Arc (Part R) Z) (v : Part R) → v ≡ arc_value a → a ≡ get_or pieces k a
    → publication_line front (publication_of v) ≡ publication_line front (published (get_or pieces k a))
line_of_shared {R} {Z} front pieces k a v is read =
    ap (λ (w : Part R). publication_line front (publication_of w)) is ∙ ap (λ (b : Arc (Part R) Z). publication_line front (published b)) read
