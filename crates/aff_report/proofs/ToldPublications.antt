-- The lines of publications are read back.
use Rattle.std.proofs.Common.{◌≡◌, ℕ, ◌+◌, ◌<◌, Bool, true, false, List, [], ◌∷◌, ◌++◌, codes, refl, sym, ap, ◌∙◌, arith, append_assoc}
use Rattle.std.proofs.lemmas.List.{append_cancel_left}
use Rattle.std.specs.Prelude.{All, if◌then◌else◌}
use Rattle.std.specs.Fmt.{decimal}
use Rattle.aff_model.specs.History.{Published}
use Rattle.aff_spec.specs.Report.{bad_text, places_text, publication_line, publication_lines}
use Rattle.aff_report.specs.Reported.{FitsPublication}
use Rattle.aff_report.proofs.PlaceTexts.{split_places}
use Rattle.aff_report.proofs.Ranks.{AreRead, numbered, numbered_tells, rank}
use Rattle.aff_report.proofs.SectorTexts.{split_bad}
use Rattle.aff_report.proofs.Splits.{byte_differs, split_decimal}

abbrev how_text : Bool → List ℕ
how_text swept = if swept then codes "swept" else codes "own"

split_how : (x y : Bool) (s t : List ℕ) → how_text x ++ s ≡ how_text y ++ t → (x ≡ y) × (s ≡ t)
split_how true true s t e = (refl, append_cancel_left (codes "swept") s t e)
split_how true false s t e = absurd (byte_differs 0 115 111 _ _ refl refl (λ h. absurd (omega arith)) e)
split_how false true s t e = absurd (byte_differs 0 111 115 _ _ refl refl (λ h. absurd (omega arith)) e)
split_how false false s t e = (refl, append_cancel_left (codes "own") s t e)

-- a line and what follows it, field by field
fields : (front extent claimant how bad places s : List ℕ)
    → (codes "publication " ++ (front ++ (codes " " ++ (extent ++ (codes " " ++ (claimant ++ (codes " " ++ (how ++ (codes " " ++ (bad ++ (codes " " ++ (places ++ codes "\n")))))))))))) ++ s
    ≡ codes "publication " ++ (front ++ (codes " " ++ (extent ++ (codes " " ++ (claimant ++ (codes " " ++ (how ++ (codes " " ++ (bad ++ (codes " " ++ (places ++ (codes "\n" ++ s))))))))))))
fields front extent claimant how bad places s = simp append_assoc

fields_of : (front : ℕ) (p : Published) (s : List ℕ) → publication_line front p ++ s
    ≡ codes "publication " ++ (decimal front ++ (codes " " ++ (decimal p.extent ++ (codes " " ++ (decimal p.claimant
    ++ (codes " " ++ (how_text p.swept ++ (codes " " ++ (bad_text p.bad ++ (codes " " ++ (places_text p.places ++ (codes "\n" ++ s))))))))))))
fields_of front p s = fields (decimal front) (decimal p.extent) (decimal p.claimant) (how_text p.swept) (bad_text p.bad) (places_text p.places) s

line_tells : (front : ℕ) (p q : Published) (s t : List ℕ) → FitsPublication p → FitsPublication q → publication_line front p ++ s ≡ publication_line front q ++ t → (p ≡ q) × (s ≡ t)
line_tells front p q s t fit_p fit_q e =
    let named = append_cancel_left (codes "publication ") _ _ (sym (fields_of front p s) ∙ e ∙ fields_of front q t) in
    let numbered = append_cancel_left (codes " ") _ _ (append_cancel_left (decimal front) _ _ named) in
    let extent = split_decimal 32 p.extent q.extent _ _ (omega arith) fit_p.extent fit_q.extent numbered in
    let claimant = split_decimal 32 p.claimant q.claimant _ _ (omega arith) fit_p.claimant fit_q.claimant extent.1 in
    let how = split_how p.swept q.swept _ _ claimant.1 in
    let bad = split_bad p.bad q.bad _ _ fit_p.bad fit_p.bad_count fit_q.bad fit_q.bad_count (append_cancel_left (codes " ") _ _ how.1) in
    let places = split_places p.places q.places _ _ fit_p.places fit_p.place_count fit_q.places fit_q.place_count bad.1 in
    (λ i. record { extent = extent.0 i; claimant = claimant.0 i; swept = how.0 i; bad = bad.0 i; places = places.0 i }, places.1)

lines : AreRead FitsPublication 1 publication_line
lines = record {
  begins = λ n p s. refl;
  tells = λ n p q s t fit_p fit_q behind_s behind_t e. line_tells n p q s t fit_p fit_q e;
}

as_numbered : (front : ℕ) (history : List Published) → publication_lines front history ≡ numbered publication_line front history
as_numbered front [] = refl
as_numbered front (p ∷ history) = ap (λ v. publication_line front p ++ v) (as_numbered (front + 1) history)

pub publications_tell : (front : ℕ) (xs ys : List Published) (s t : List ℕ) → All FitsPublication xs → All FitsPublication ys → 1 < rank s → 1 < rank t
    → publication_lines front xs ++ s ≡ publication_lines front ys ++ t → (xs ≡ ys) × (s ≡ t)
publications_tell front xs ys s t fit_xs fit_ys behind_s behind_t e =
    numbered_tells FitsPublication 1 publication_line lines front xs ys s t fit_xs fit_ys behind_s behind_t
    (sym (ap (λ v. v ++ s) (as_numbered front xs)) ∙ e ∙ ap (λ v. v ++ t) (as_numbered front ys))
