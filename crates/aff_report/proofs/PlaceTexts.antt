-- The text of places is read back.
use Rattle.std.proofs.Common.{◌≡◌, ◌≢◌, ℕ, suc, ◌+◌, ◌==◌, ◌<◌, ◌≤◌, true, false, List, [], ◌∷◌, ◌++◌, length, map, replicate, refl, sym, ap, ◌∙◌, arith}
use Rattle.std.specs.Prelude.{All, if◌then◌else◌}
use Rattle.std.specs.Fmt.{decimal}
use Rattle.std.specs.List.{range_with_len}
use Rattle.std.proofs.lemmas.Fmt.{decimal_injective}
use Rattle.std.proofs.lemmas.List.Elements.{All-append, All-cons, All-head, All-nil, All-tail, All-weaker}
use Rattle.aff_model.specs.declared.publication.Place.{Place}
use Rattle.aff_model.specs.declared.publication.Place.TheVariants.{Zero, Chunk, Nothing}
use Rattle.aff_spec.specs.Report.{PlaceRun, Zeros, Nothings, Chunks, place_run_text, place_runs, places_text, with_place}
use Rattle.aff_report.specs.Reported.{FitsPlace, IsWord}
use Rattle.aff_report.proofs.RunTexts.{AreRunTexts, joined_lacks, joined_tells}
use Rattle.aff_report.proofs.SectorTexts.{range_more, same_if}
use Rattle.aff_report.proofs.Splits.{Lacks, byte_differs, decimal_lacks, split_at_byte, split_decimal}

-- the places of a run, and of runs
abbrev places_in : PlaceRun → List Place
places_in (Zeros n) = replicate n Zero
places_in (Nothings n) = replicate n Nothing
places_in (Chunks first n) = map Chunk (range_with_len first n)

abbrev places_of : List PlaceRun → List Place
places_of [] = []
places_of (r ∷ runs) = places_in r ++ places_of runs

one_more : (n : ℕ) → n + 1 ≡ suc n
one_more n = omega arith

places_again : (p : Place) (runs : List PlaceRun) → places_of (with_place p runs) ≡ p ∷ places_of runs
places_again Zero [] = refl
places_again Zero (Zeros n ∷ runs) = ap (λ k. replicate k Zero ++ places_of runs) (one_more n)
places_again Zero (Nothings n ∷ runs) = refl
places_again Zero (Chunks first n ∷ runs) = refl
places_again Nothing [] = refl
places_again Nothing (Zeros n ∷ runs) = refl
places_again Nothing (Nothings n ∷ runs) = ap (λ k. replicate k Nothing ++ places_of runs) (one_more n)
places_again Nothing (Chunks first n ∷ runs) = refl
places_again (Chunk c) [] = refl
places_again (Chunk c) (Zeros n ∷ runs) = refl
places_again (Chunk c) (Nothings n ∷ runs) = refl
places_again (Chunk c) (Chunks first n ∷ runs) =
    elim (first == c + 1) as (λ b. (first == c + 1) ≡ b
    → places_of (if b then Chunks c (n + 1) ∷ runs else Chunks c 1 ∷ Chunks first n ∷ runs) ≡ Chunk c ∷ places_of (Chunks first n ∷ runs)) [
      | true ↦ λ e. ap (λ v. map Chunk v ++ places_of runs) (range_more c n) ∙ ap (λ f. Chunk c ∷ (map Chunk (range_with_len f n) ++ places_of runs)) (sym (same_if first (c + 1) e))
      | false ↦ λ e. refl
    ] refl

-- the runs of places have just these places
places_back : (places : List Place) → places_of (place_runs places) ≡ places
places_back [] = refl
places_back (p ∷ places) = places_again p (place_runs places) ∙ ap (λ v. p ∷ v) (places_back places)

-- a run of at most so many places
abbrev UpTo : ℕ → PlaceRun → Type 0
UpTo n (Zeros k) = k ≤ n
UpTo n (Nothings k) = k ≤ n
UpTo n (Chunks first k) = IsWord first × (k ≤ n)

wider : (n : ℕ) (r : PlaceRun) → UpTo n r → UpTo (suc n) r
wider n (Zeros k) h = omega (arith, h)
wider n (Nothings k) h = omega (arith, h)
wider n (Chunks first k) h = (h.0, omega (arith, h.1))

-- the run of a place by itself
abbrev alone : Place → PlaceRun
alone Zero = Zeros 1
alone (Chunk c) = Chunks c 1
alone Nothing = Nothings 1

one_fits : (n : ℕ) (p : Place) → FitsPlace p → UpTo (suc n) (alone p)
one_fits n Zero fit = omega arith
one_fits n (Chunk c) fit = (fit, omega arith)
one_fits n Nothing fit = omega arith

up_to_alone : (n : ℕ) (p : Place) (runs : List PlaceRun) → FitsPlace p → All (UpTo n) runs → All (UpTo (suc n)) (alone p ∷ runs)
up_to_alone n p runs fit all = All-cons (UpTo (suc n)) (alone p) runs (one_fits n p fit) (All-weaker (UpTo n) (UpTo (suc n)) (wider n) runs all)

up_to_grown : (n : ℕ) (r q : PlaceRun) (runs : List PlaceRun) → UpTo (suc n) q → All (UpTo n) (r ∷ runs) → All (UpTo (suc n)) (q ∷ runs)
up_to_grown n r q runs fit all = All-cons (UpTo (suc n)) q runs fit (All-weaker (UpTo n) (UpTo (suc n)) (wider n) runs (All-tail (UpTo n) r runs all))

up_to_more : (n : ℕ) (p : Place) (runs : List PlaceRun) → FitsPlace p → All (UpTo n) runs → All (UpTo (suc n)) (with_place p runs)
up_to_more n Zero [] fit all = up_to_alone n Zero [] fit all
up_to_more n Zero (Zeros k ∷ runs) fit all = let most = All-head (UpTo n) (Zeros k) runs all in up_to_grown n (Zeros k) (Zeros (k + 1)) runs (omega (arith, most)) all
up_to_more n Zero (Nothings k ∷ runs) fit all = up_to_alone n Zero (Nothings k ∷ runs) fit all
up_to_more n Zero (Chunks first k ∷ runs) fit all = up_to_alone n Zero (Chunks first k ∷ runs) fit all
up_to_more n Nothing [] fit all = up_to_alone n Nothing [] fit all
up_to_more n Nothing (Zeros k ∷ runs) fit all = up_to_alone n Nothing (Zeros k ∷ runs) fit all
up_to_more n Nothing (Nothings k ∷ runs) fit all = let most = All-head (UpTo n) (Nothings k) runs all in up_to_grown n (Nothings k) (Nothings (k + 1)) runs (omega (arith, most)) all
up_to_more n Nothing (Chunks first k ∷ runs) fit all = up_to_alone n Nothing (Chunks first k ∷ runs) fit all
up_to_more n (Chunk c) [] fit all = up_to_alone n (Chunk c) [] fit all
up_to_more n (Chunk c) (Zeros k ∷ runs) fit all = up_to_alone n (Chunk c) (Zeros k ∷ runs) fit all
up_to_more n (Chunk c) (Nothings k ∷ runs) fit all = up_to_alone n (Chunk c) (Nothings k ∷ runs) fit all
up_to_more n (Chunk c) (Chunks first k ∷ runs) fit all =
    let most = All-head (UpTo n) (Chunks first k) runs all in
    elim (first == c + 1) as (λ b. All (UpTo (suc n)) (if b then Chunks c (k + 1) ∷ runs else Chunks c 1 ∷ Chunks first k ∷ runs)) [
      | true ↦ up_to_grown n (Chunks first k) (Chunks c (k + 1)) runs (fit, omega (arith, most.1)) all
      | false ↦ up_to_alone n (Chunk c) (Chunks first k ∷ runs) fit all
    ]

up_to : (places : List Place) → All FitsPlace places → All (UpTo (length places)) (place_runs places)
up_to [] all = All-nil (UpTo 0)
up_to (p ∷ places) all = up_to_more (length places) p (place_runs places) (All-head FitsPlace p places all) (up_to places (All-tail FitsPlace p places all))

-- a run whose numbers are words
abbrev Fits : PlaceRun → Type 0
Fits (Zeros n) = IsWord n
Fits (Nothings n) = IsWord n
Fits (Chunks first n) = IsWord first × IsWord n

fit_up_to : (n : ℕ) → IsWord n → (r : PlaceRun) → UpTo n r → Fits r
fit_up_to n word (Zeros k) h = omega (arith, h)
fit_up_to n word (Nothings k) h = omega (arith, h)
fit_up_to n word (Chunks first k) h = (h.0, omega (arith, h.1))

fits : (places : List Place) → All FitsPlace places → IsWord (length places) → All Fits (place_runs places)
fits places all count = All-weaker (UpTo (length places)) Fits (fit_up_to (length places) count) (place_runs places) (up_to places all)

text_some : (r : PlaceRun) → Fits r → ¬ (place_run_text r ≡ [])
text_some (Zeros n) fit e = cc
text_some (Nothings n) fit e = cc
text_some (Chunks first n) fit e = cc

letter_lacks : (c letter n : ℕ) → c < 48 → 48 ≤ letter → IsWord n → Lacks c (letter ∷ decimal n)
letter_lacks c letter n low high word = All-cons (λ b. b ≢ c) letter (decimal n) (λ e. absurd (omega arith)) (decimal_lacks c n low word)

text_lacks : (c : ℕ) (r : PlaceRun) → c < 48 → c ≢ 43 → Fits r → Lacks c (place_run_text r)
text_lacks c (Zeros n) low plus fit = letter_lacks c 122 n low (omega arith) fit
text_lacks c (Nothings n) low plus fit = letter_lacks c 110 n low (omega arith) fit
text_lacks c (Chunks first n) low plus fit =
    All-append (λ b. b ≢ c) (99 ∷ decimal first) (43 ∷ decimal n) (letter_lacks c 99 first low (omega arith) fit.0)
    (All-cons (λ b. b ≢ c) 43 (decimal n) (λ e. plus (sym e)) (decimal_lacks c n low fit.1))

text_tells : (q r : PlaceRun) → Fits q → Fits r → place_run_text q ≡ place_run_text r → q ≡ r
text_tells (Zeros m) (Zeros n) fit_q fit_r e = ap Zeros (decimal_injective m n fit_q fit_r cc)
text_tells (Zeros m) (Nothings n) fit_q fit_r e = absurd (byte_differs 0 122 110 _ _ refl refl (λ h. absurd (omega arith)) e)
text_tells (Zeros m) (Chunks first n) fit_q fit_r e = absurd (byte_differs 0 122 99 _ _ refl refl (λ h. absurd (omega arith)) e)
text_tells (Nothings m) (Zeros n) fit_q fit_r e = absurd (byte_differs 0 110 122 _ _ refl refl (λ h. absurd (omega arith)) e)
text_tells (Nothings m) (Nothings n) fit_q fit_r e = ap Nothings (decimal_injective m n fit_q fit_r cc)
text_tells (Nothings m) (Chunks first n) fit_q fit_r e = absurd (byte_differs 0 110 99 _ _ refl refl (λ h. absurd (omega arith)) e)
text_tells (Chunks start m) (Zeros n) fit_q fit_r e = absurd (byte_differs 0 99 122 _ _ refl refl (λ h. absurd (omega arith)) e)
text_tells (Chunks start m) (Nothings n) fit_q fit_r e = absurd (byte_differs 0 99 110 _ _ refl refl (λ h. absurd (omega arith)) e)
text_tells (Chunks start m) (Chunks first n) fit_q fit_r e =
    let parts = split_decimal 43 start first (decimal m) (decimal n) (omega arith) fit_q.0 fit_r.0 cc in
    let count = decimal_injective m n fit_q.1 fit_r.1 parts.1 in
    λ i. Chunks (parts.0 i) (count i)

texts : AreRunTexts Fits place_run_text
texts = record { some = text_some; lacks = text_lacks; tells = text_tells }

places_tell : (xs ys : List Place) → All FitsPlace xs → IsWord (length xs) → All FitsPlace ys → IsWord (length ys) → places_text xs ≡ places_text ys → xs ≡ ys
places_tell xs ys fit_x count_x fit_y count_y e =
    sym (places_back xs)
    ∙ ap places_of (joined_tells Fits place_run_text texts (place_runs xs) (place_runs ys) (fits xs fit_x count_x) (fits ys fit_y count_y) e)
    ∙ places_back ys

places_lack : (c : ℕ) (xs : List Place) → c < 43 → All FitsPlace xs → IsWord (length xs) → Lacks c (places_text xs)
places_lack c xs low fit count =
    joined_lacks Fits place_run_text texts c (place_runs xs) (omega arith) (λ h. absurd (omega arith)) (λ h. absurd (omega arith)) (fits xs fit count)

-- the text of places, up to a line feed
pub split_places : (xs ys : List Place) (s t : List ℕ) → All FitsPlace xs → IsWord (length xs) → All FitsPlace ys → IsWord (length ys)
    → places_text xs ++ (10 ∷ s) ≡ places_text ys ++ (10 ∷ t) → (xs ≡ ys) × (s ≡ t)
split_places xs ys s t fit_x count_x fit_y count_y e =
    let parts = split_at_byte 10 (places_text xs) (places_text ys) s t (places_lack 10 xs (omega arith) fit_x count_x) (places_lack 10 ys (omega arith) fit_y count_y) e in
    (places_tell xs ys fit_x count_x fit_y count_y parts.0, parts.1)
