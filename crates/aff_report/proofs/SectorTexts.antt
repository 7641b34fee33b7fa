-- The text of unreadable sectors is read back.
use Rattle.std.proofs.Common.{◌≡◌, ◌≢◌, ℕ, suc, ◌+◌, ◌==◌, ◌<◌, ◌≤◌, true, false, List, [], ◌∷◌, ◌++◌, length, refl, sym, ap, ◌∙◌, arith}
use Rattle.std.specs.Prelude.{All, codes, if◌then◌else◌}
use Rattle.std.specs.Fmt.{decimal}
use Rattle.std.specs.List.{range_with_len}
use Rattle.std.proofs.lemmas.Bool.Decides.{nat_tests}
use Rattle.std.proofs.lemmas.Fmt.{decimal_injective}
use Rattle.std.proofs.lemmas.List.Elements.{All-append, All-cons, All-head, All-nil, All-tail, All-weaker}
use Rattle.aff_spec.specs.Report.{SectorRun, bad_text, sector_run_text, sector_runs, with_sector}
use Rattle.aff_report.specs.Reported.{IsWord}
use Rattle.aff_report.proofs.RunTexts.{AreRunTexts, joined, joined_lacks, joined_tells, not_cut}
use Rattle.aff_report.proofs.Splits.{Lacks, decimal_lacks, split_at_byte, split_decimal}

-- the sectors of runs
abbrev sectors_of : List SectorRun → List ℕ
sectors_of [] = []
sectors_of (r ∷ runs) = range_with_len r.first r.count ++ sectors_of runs

-- a run with one sector more in front
pub range_more : (first n : ℕ) → range_with_len first (n + 1) ≡ first ∷ range_with_len (first + 1) n
range_more first n = let one_more : n + 1 ≡ suc n = omega arith in ap (range_with_len first) one_more

pub same_if : (a b : ℕ) → (a == b) ≡ true → a ≡ b
same_if a b h = grind (arith, nat_tests)

sectors_again : (s : ℕ) (runs : List SectorRun) → sectors_of (with_sector s runs) ≡ s ∷ sectors_of runs
sectors_again s [] = refl
sectors_again s (r ∷ runs) =
    elim (r.first == s + 1) as (λ b. (r.first == s + 1) ≡ b
    → sectors_of (if b then record { first = s; count = r.count + 1 } ∷ runs else record { first = s; count = 1 } ∷ r ∷ runs) ≡ s ∷ sectors_of (r ∷ runs)) [
      | true ↦ λ e. ap (λ v. v ++ sectors_of runs) (range_more s r.count) ∙ ap (λ f. s ∷ (range_with_len f r.count ++ sectors_of runs)) (sym (same_if r.first (s + 1) e))
      | false ↦ λ e. refl
    ] refl

-- the runs of sectors have just these sectors
pub sectors_back : (xs : List ℕ) → sectors_of (sector_runs xs) ≡ xs
sectors_back [] = refl
sectors_back (s ∷ xs) = sectors_again s (sector_runs xs) ∙ ap (λ v. s ∷ v) (sectors_back xs)

-- a run of at most so many sectors
abbrev UpTo : ℕ → SectorRun → Type 0
UpTo n r = IsWord r.first × (r.count ≤ n)

up_to_more : (n s : ℕ) (runs : List SectorRun) → IsWord s → All (UpTo n) runs → All (UpTo (suc n)) (with_sector s runs)
up_to_more n s [] word all = All-cons (UpTo (suc n)) (record { first = s; count = 1 }) [] (word, omega arith) (All-nil (UpTo (suc n)))
up_to_more n s (r ∷ runs) word all =
    let wide = All-weaker (UpTo n) (UpTo (suc n)) (λ q h. (h.0, omega (arith, h.1))) (r ∷ runs) all in
    let first = All-head (UpTo n) r runs all in
    elim (r.first == s + 1) as (λ b. All (UpTo (suc n)) (if b then record { first = s; count = r.count + 1 } ∷ runs else record { first = s; count = 1 } ∷ r ∷ runs)) [
      | true ↦ All-cons (UpTo (suc n)) (record { first = s; count = r.count + 1 }) runs (word, omega (arith, first.1)) (All-tail (UpTo (suc n)) r runs wide)
      | false ↦ All-cons (UpTo (suc n)) (record { first = s; count = 1 }) (r ∷ runs) (word, omega arith) wide
    ]

up_to : (xs : List ℕ) → All IsWord xs → All (UpTo (length xs)) (sector_runs xs)
up_to [] words = All-nil (UpTo 0)
up_to (s ∷ xs) words = up_to_more (length xs) s (sector_runs xs) (All-head IsWord s xs words) (up_to xs (All-tail IsWord s xs words))

-- a run whose numbers are words
abbrev Fits : SectorRun → Type 0
Fits r = IsWord r.first × IsWord r.count

fits : (xs : List ℕ) → All IsWord xs → IsWord (length xs) → All Fits (sector_runs xs)
fits xs words count = All-weaker (UpTo (length xs)) Fits (λ r h. (h.0, omega (arith, h.1))) (sector_runs xs) (up_to xs words)

text_lacks : (c : ℕ) (r : SectorRun) → c < 48 → c ≢ 43 → Fits r → Lacks c (sector_run_text r)
text_lacks c r low plus fit =
    All-append (λ b. b ≢ c) (decimal r.first) (43 ∷ decimal r.count) (decimal_lacks c r.first low fit.0)
    (All-cons (λ b. b ≢ c) 43 (decimal r.count) (λ e. plus (sym e)) (decimal_lacks c r.count low fit.1))

text_tells : (q r : SectorRun) → Fits q → Fits r → sector_run_text q ≡ sector_run_text r → q ≡ r
text_tells q r fit_q fit_r e =
    let parts = split_decimal 43 q.first r.first (decimal q.count) (decimal r.count) (omega arith) fit_q.0 fit_r.0 e in
    let count = decimal_injective q.count r.count fit_q.1 fit_r.1 parts.1 in
    λ i. record { first = parts.0 i; count = count i }

texts : AreRunTexts Fits sector_run_text
texts = record {
  some = λ r fit e. not_cut 43 [] (decimal r.first) (decimal r.count) (All-nil (λ b. b ≢ 43)) (sym e);
  lacks = text_lacks;
  tells = text_tells;
}

-- some sectors are not told as none
some_apart : (xs : List ℕ) → All IsWord xs → IsWord (length xs) → ¬ (codes "-" ≡ joined sector_run_text (sector_runs xs))
some_apart xs words count e =
    let none = joined_lacks Fits sector_run_text texts 45 (sector_runs xs) (omega arith) (λ h. absurd (omega arith)) (λ h. absurd (omega arith)) (fits xs words count) in
    not_cut 45 (joined sector_run_text (sector_runs xs)) [] [] none (sym e)

joined_back : (xs ys : List ℕ) → All IsWord xs → IsWord (length xs) → All IsWord ys → IsWord (length ys) → joined sector_run_text (sector_runs xs) ≡ joined sector_run_text (sector_runs ys) → xs ≡ ys
joined_back xs ys words_x count_x words_y count_y e =
    sym (sectors_back xs)
    ∙ ap sectors_of (joined_tells Fits sector_run_text texts (sector_runs xs) (sector_runs ys) (fits xs words_x count_x) (fits ys words_y count_y) e)
    ∙ sectors_back ys

bad_tells : (xs ys : List ℕ) → All IsWord xs → IsWord (length xs) → All IsWord ys → IsWord (length ys) → bad_text xs ≡ bad_text ys → xs ≡ ys
bad_tells [] [] words_x count_x words_y count_y e = refl
bad_tells [] (y ∷ ys) words_x count_x words_y count_y e = absurd (some_apart (y ∷ ys) words_y count_y e)
bad_tells (x ∷ xs) [] words_x count_x words_y count_y e = absurd (some_apart (x ∷ xs) words_x count_x (sym e))
bad_tells (x ∷ xs) (y ∷ ys) words_x count_x words_y count_y e = joined_back (x ∷ xs) (y ∷ ys) words_x count_x words_y count_y e

bad_lacks : (c : ℕ) (xs : List ℕ) → c < 43 → All IsWord xs → IsWord (length xs) → Lacks c (bad_text xs)
bad_lacks c [] low words count = All-cons (λ b. b ≢ c) 45 [] (λ e. absurd (omega arith)) (All-nil (λ b. b ≢ c))
bad_lacks c (x ∷ xs) low words count =
    joined_lacks Fits sector_run_text texts c (sector_runs (x ∷ xs)) (omega arith) (λ h. absurd (omega arith)) (λ h. absurd (omega arith)) (fits (x ∷ xs) words count)

-- the text of sectors, up to a space
pub split_bad : (xs ys s t : List ℕ) → All IsWord xs → IsWord (length xs) → All IsWord ys → IsWord (length ys) → bad_text xs ++ (32 ∷ s) ≡ bad_text ys ++ (32 ∷ t) → (xs ≡ ys) × (s ≡ t)
split_bad xs ys s t words_x count_x words_y count_y e =
    let parts = split_at_byte 32 (bad_text xs) (bad_text ys) s t (bad_lacks 32 xs (omega arith) words_x count_x) (bad_lacks 32 ys (omega arith) words_y count_y) e in
    (bad_tells xs ys words_x count_x words_y count_y parts.0, parts.1)
