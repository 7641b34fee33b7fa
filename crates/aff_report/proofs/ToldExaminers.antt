-- The lines of examiners are read back.
use Rattle.std.proofs.Common.{◌≡◌, ℕ, ◌+◌, ◌<◌, ◌≤◌, List, [], ◌∷◌, ◌++◌, codes, refl, sym, ap, ◌∙◌, append_assoc, arith}
use Rattle.std.proofs.lemmas.List.{append_cancel_left}
use Rattle.std.specs.Prelude.{All}
use Rattle.std.specs.Fmt.{decimal}
use Rattle.aff_report.specs.Examiners.{examiner_line, examiner_lines}
use Rattle.aff_report.specs.Reported.{IsOneLine}
use Rattle.aff_report.proofs.Ranks.{AreRead, numbered, numbered_rank, numbered_tells, rank}
use Rattle.aff_report.proofs.Splits.{lacks_from, split_at_byte}

fields : (number finding s : List ℕ) → (codes "examiner " ++ (number ++ (codes " " ++ (finding ++ codes "\n")))) ++ s ≡ codes "examiner " ++ (number ++ (codes " " ++ (finding ++ (codes "\n" ++ s))))
fields number finding s = simp append_assoc

line_tells : (n : ℕ) (f g s t : List ℕ) → IsOneLine f → IsOneLine g → examiner_line n f ++ s ≡ examiner_line n g ++ t → (f ≡ g) × (s ≡ t)
line_tells n f g s t one_f one_g e =
    let named = append_cancel_left (codes "examiner ") _ _ (sym (fields (decimal n) f s) ∙ e ∙ fields (decimal n) g t) in
    let found = append_cancel_left (codes " ") _ _ (append_cancel_left (decimal n) _ _ named) in
    split_at_byte 10 f g s t (lacks_from 10 f one_f) (lacks_from 10 g one_g) found

lines : AreRead IsOneLine 5 examiner_line
lines = record {
  begins = λ n f s. refl;
  tells = λ n f g s t one_f one_g behind_s behind_t e. line_tells n f g s t one_f one_g e;
}

as_numbered : (n : ℕ) (findings : List (List ℕ)) → examiner_lines n findings ≡ numbered examiner_line n findings
as_numbered n [] = refl
as_numbered n (f ∷ findings) = ap (λ v. examiner_line n f ++ v) (as_numbered (n + 1) findings)

pub examiners_rank : (n : ℕ) (findings : List (List ℕ)) (s : List ℕ) → 5 < rank s → 5 ≤ rank (examiner_lines n findings ++ s)
examiners_rank n findings s behind =
    let high = numbered_rank IsOneLine 5 examiner_line lines n findings s behind in
    let same = ap (λ v. rank (v ++ s)) (as_numbered n findings) in
    omega arith

pub examiners_tell : (n : ℕ) (xs ys : List (List ℕ)) (s t : List ℕ) → All IsOneLine xs → All IsOneLine ys → 5 < rank s → 5 < rank t
    → examiner_lines n xs ++ s ≡ examiner_lines n ys ++ t → (xs ≡ ys) × (s ≡ t)
examiners_tell n xs ys s t one_xs one_ys behind_s behind_t e =
    numbered_tells IsOneLine 5 examiner_line lines n xs ys s t one_xs one_ys behind_s behind_t
    (sym (ap (λ v. v ++ s) (as_numbered n xs)) ∙ e ∙ ap (λ v. v ++ t) (as_numbered n ys))
