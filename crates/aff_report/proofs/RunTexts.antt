-- Texts of runs with commas between them are read back.
use Rattle.std.proofs.Common.{◌≡◌, ◌≢◌, ℕ, ◌<◌, List, [], ◌∷◌, ◌++◌, map, refl, sym, ap, arith}
use Rattle.std.specs.Prelude.{All}
use Rattle.std.specs.List.{join_with_byte}
use Rattle.std.proofs.lemmas.List.Elements.{All-append, All-cons, All-head, All-nil, All-tail}
use Rattle.aff_report.proofs.Splits.{Lacks, split_at_byte}

-- texts of runs: there is something, of digits, letters and `+`, and it tells the run
pub record AreRunTexts {R : Type 0} (fits : R → Type 0) (text : R → List ℕ) : Type 0 where
  pub some : (r : R) → fits r → ¬ (text r ≡ [])
  pub lacks : (c : ℕ) (r : R) → c < 48 → c ≢ 43 → fits r → Lacks c (text r)
  pub tells : (q r : R) → fits q → fits r → text q ≡ text r → q ≡ r

abbrev pub joined : {R : Type 0} → (R → List ℕ) → List R → List ℕ
joined text runs = join_with_byte 44 (map text runs)

pub joined_lacks : {R : Type 0} (fits : R → Type 0) (text : R → List ℕ) → AreRunTexts fits text → (c : ℕ) (runs : List R) → c < 48 → c ≢ 43 → c ≢ 44 → All fits runs → Lacks c (joined text runs)
joined_lacks fits text texts c [] low plus comma fit = All-nil (λ b. b ≢ c)
joined_lacks fits text texts c (r ∷ []) low plus comma fit = texts.lacks c r low plus (All-head fits r [] fit)
joined_lacks fits text texts c (r ∷ q ∷ runs) low plus comma fit =
    All-append (λ b. b ≢ c) (text r) (44 ∷ joined text (q ∷ runs))
    (texts.lacks c r low plus (All-head fits r (q ∷ runs) fit))
    (All-cons (λ b. b ≢ c) 44 (joined text (q ∷ runs)) (λ e. comma (sym e)) (joined_lacks fits text texts c (q ∷ runs) low plus comma (All-tail fits r (q ∷ runs) fit)))

-- what lacks a byte is not cut at it
pub not_cut : (c : ℕ) (u v w : List ℕ) → Lacks c u → ¬ (u ≡ v ++ (c ∷ w))
not_cut c [] [] w lacks e = cc
not_cut c [] (y ∷ v) w lacks e = cc
not_cut c (x ∷ u) [] w lacks e = All-head (λ b. b ≢ c) x u lacks cc
not_cut c (x ∷ u) (y ∷ v) w lacks e = not_cut c u v w (All-tail (λ b. b ≢ c) x u lacks) cc

cut_some : (c : ℕ) (v w : List ℕ) → ¬ ([] ≡ v ++ (c ∷ w))
cut_some c v w = not_cut c [] v w (All-nil (λ b. b ≢ c))

pub joined_tells : {R : Type 0} (fits : R → Type 0) (text : R → List ℕ) → AreRunTexts fits text → (qs rs : List R) → All fits qs → All fits rs → joined text qs ≡ joined text rs → qs ≡ rs
joined_tells fits text texts [] [] fit_q fit_r e = refl
joined_tells fits text texts [] (r ∷ []) fit_q fit_r e = absurd (texts.some r (All-head fits r [] fit_r) (sym e))
joined_tells fits text texts [] (r ∷ next ∷ rs) fit_q fit_r e = absurd (cut_some 44 (text r) (joined text (next ∷ rs)) e)
joined_tells fits text texts (q ∷ []) [] fit_q fit_r e = absurd (texts.some q (All-head fits q [] fit_q) e)
joined_tells fits text texts (q ∷ after ∷ qs) [] fit_q fit_r e = absurd (cut_some 44 (text q) (joined text (after ∷ qs)) (sym e))
joined_tells fits text texts (q ∷ []) (r ∷ []) fit_q fit_r e = ap (λ v. v ∷ []) (texts.tells q r (All-head fits q [] fit_q) (All-head fits r [] fit_r) e)
joined_tells fits text texts (q ∷ []) (r ∷ next ∷ rs) fit_q fit_r e =
    absurd (not_cut 44 (text q) (text r) (joined text (next ∷ rs)) (texts.lacks 44 q (omega arith) (λ h. absurd (omega arith)) (All-head fits q [] fit_q)) e)
joined_tells fits text texts (q ∷ after ∷ qs) (r ∷ []) fit_q fit_r e =
    absurd (not_cut 44 (text r) (text q) (joined text (after ∷ qs)) (texts.lacks 44 r (omega arith) (λ h. absurd (omega arith)) (All-head fits r [] fit_r)) (sym e))
joined_tells fits text texts (q ∷ after ∷ qs) (r ∷ next ∷ rs) fit_q fit_r e =
    let fit_first = All-head fits q (after ∷ qs) fit_q in
    let fit_other = All-head fits r (next ∷ rs) fit_r in
    let parts = split_at_byte 44 (text q) (text r) (joined text (after ∷ qs)) (joined text (next ∷ rs))
    (texts.lacks 44 q (omega arith) (λ h. absurd (omega arith)) fit_first) (texts.lacks 44 r (omega arith) (λ h. absurd (omega arith)) fit_other) e in
    let first = texts.tells q r fit_first fit_other parts.0 in
    let rest = joined_tells fits text texts (after ∷ qs) (next ∷ rs) (All-tail fits q (after ∷ qs) fit_q) (All-tail fits r (next ∷ rs) fit_r) parts.1 in
    λ i. first i ∷ rest i
