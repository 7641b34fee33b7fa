-- Lines one behind the other that are read back: the first byte of a line tells its kind, and kinds stand in a fixed order.
use Rattle.std.proofs.Common.{◌≡◌, ℕ, ◌+◌, ◌==◌, ◌<◌, ◌≤◌, ◌||◌, List, [], ◌∷◌, ◌++◌, refl, sym, ap, ◌∙◌, arith, append_assoc}
use Rattle.std.specs.Prelude.{All, if◌then◌else◌}
use Rattle.std.specs.List.{flat_map}
use Rattle.std.proofs.lemmas.List.Elements.{All-head, All-tail}

-- how far out the lines that begin so stand: publications, runs of an answer, reads, sessions, examiners, and what follows them
abbrev pub rank : List ℕ → ℕ
rank [] = 6
rank (b ∷ s) = if b == 112 then 1 else if b == 107 || b == 117 then 2 else if b == 114 then 3 else if b == 115 then 4 else if b == 101 then 5 else 6

-- elements whose texts have one rank, each read back where nothing of a lower rank follows
pub record AreRead {A : Type 0} (fits : A → Type 0) (k : ℕ) (text : ℕ → A → List ℕ) : Type 0 where
  pub begins : (n : ℕ) (a : A) (s : List ℕ) → rank (text n a ++ s) ≡ k
  pub tells : (n : ℕ) (a b : A) (s t : List ℕ) → fits a → fits b → k ≤ rank s → k ≤ rank t → text n a ++ s ≡ text n b ++ t → (a ≡ b) × (s ≡ t)

-- the texts of elements, numbered from the one given
abbrev pub numbered : {A : Type 0} → (ℕ → A → List ℕ) → ℕ → List A → List ℕ
numbered text n [] = []
numbered text n (a ∷ xs) = text n a ++ numbered text (n + 1) xs

pub numbered-flat_map : {A : Type 0} (text : A → List ℕ) (n : ℕ) (xs : List A) → flat_map text xs ≡ numbered (λ m. text) n xs
numbered-flat_map text n [] = refl
numbered-flat_map text n (a ∷ xs) = ap (λ v. text a ++ v) (numbered-flat_map text (n + 1) xs)

pub numbered_rank : {A : Type 0} (fits : A → Type 0) (k : ℕ) (text : ℕ → A → List ℕ) → AreRead fits k text → (n : ℕ) (xs : List A) (s : List ℕ) → k < rank s → k ≤ rank (numbered text n xs ++ s)
numbered_rank fits k text read n [] s behind = omega arith
numbered_rank fits k text read n (a ∷ xs) s behind =
    let begun = ap rank (append_assoc (text n a) (numbered text (n + 1) xs) s) ∙ read.begins n a (numbered text (n + 1) xs ++ s) in
    omega arith

-- where lines begin, no line of a higher rank does
begun_apart : {A : Type 0} (fits : A → Type 0) (k : ℕ) (text : ℕ → A → List ℕ) → AreRead fits k text → (n : ℕ) (a : A) (more s t : List ℕ) → k < rank t → ¬ (t ≡ (text n a ++ more) ++ s)
begun_apart fits k text read n a more s t behind e =
    let begun = ap rank (e ∙ append_assoc (text n a) more s) ∙ read.begins n a (more ++ s) in
    absurd (omega arith)

-- a list of them is read back where what follows is of a higher rank
pub numbered_tells : {A : Type 0} (fits : A → Type 0) (k : ℕ) (text : ℕ → A → List ℕ) → AreRead fits k text → (n : ℕ) (xs ys : List A) (s t : List ℕ)
    → All fits xs → All fits ys → k < rank s → k < rank t → numbered text n xs ++ s ≡ numbered text n ys ++ t → (xs ≡ ys) × (s ≡ t)
numbered_tells fits k text read n [] [] s t fit_xs fit_ys behind_s behind_t e = (refl, e)
numbered_tells fits k text read n [] (b ∷ ys) s t fit_xs fit_ys behind_s behind_t e =
    absurd (begun_apart fits k text read n b (numbered text (n + 1) ys) t s behind_s e)
numbered_tells fits k text read n (a ∷ xs) [] s t fit_xs fit_ys behind_s behind_t e =
    absurd (begun_apart fits k text read n a (numbered text (n + 1) xs) s t behind_t (sym e))
numbered_tells fits k text read n (a ∷ xs) (b ∷ ys) s t fit_xs fit_ys behind_s behind_t e =
    let more_s = numbered text (n + 1) xs ++ s in
    let more_t = numbered text (n + 1) ys ++ t in
    let same : text n a ++ more_s ≡ text n b ++ more_t = sym (append_assoc (text n a) (numbered text (n + 1) xs) s) ∙ e ∙ append_assoc (text n b) (numbered text (n + 1) ys) t in
    let first = read.tells n a b more_s more_t (All-head fits a xs fit_xs) (All-head fits b ys fit_ys)
    (numbered_rank fits k text read (n + 1) xs s behind_s) (numbered_rank fits k text read (n + 1) ys t behind_t) same in
    let rest = numbered_tells fits k text read (n + 1) xs ys s t (All-tail fits a xs fit_xs) (All-tail fits b ys fit_ys) behind_s behind_t first.1 in
    (λ i. first.0 i ∷ rest.0 i, rest.1)
