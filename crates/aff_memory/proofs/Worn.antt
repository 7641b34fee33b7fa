-- A list each of whose first elements was changed, one after another; and flaky sectors after a reading.
use Rattle.std.proofs.Common.{◌≡◌, ℕ, ◌+◌, ◌<◌, ◌&&◌, ◌||◌, nat_lt, nat_le, Bool, true, false, List, [], ◌∷◌, ◌++◌, length, take, drop, map, get_or, set, refl, sym, ap, ◌∙◌, arith, add-one, drop-cons, append_assoc}
use Rattle.std.proofs.lemmas.List.{map-append, length-map, length-take-le}
use Rattle.std.proofs.Math.Seq.{take-suc, get_or-append_seam, set-append_seam}
use Rattle.std.proofs.lemmas.Grind.{common_steps}
use Rattle.std.specs.List.{list_any}
use Rattle.aff_memory.specs.declared.flaky.Flaky.{Flaky}
use Rattle.aff_memory.specs.Flaked.{weak_content, sectors_of, in_range, still_fails, worn}

pub sectors_worn : (first end : ℕ) (flaky : List Flaky) → sectors_of (map (worn first end) flaky) ≡ sectors_of flaky
sectors_worn first end [] = refl
sectors_worn first end (f ∷ flaky) = ap (λ t. f.sector ∷ t) (sectors_worn first end flaky)

either : (a b c d : Bool) → ((a && b) || c) ≡ true → (c ≡ true → d ≡ true) → (a || d) ≡ true
either true b c d h f = refl
either false b c d h f = f h

-- a sector of the range that still fails is a listed sector of the range
pub listed : (first end : ℕ) (flaky : List Flaky) → still_fails first end flaky ≡ true → list_any (λ s. nat_le first s && nat_lt s end) (sectors_of flaky) ≡ true
listed first end [] h = h
listed first end (f ∷ flaky) h = either (in_range first end f.sector) (nat_lt 0 f.times) _ _ h (listed first end flaky)

-- one more element, of which each before it was changed
pub one_more : (F : Flaky → Flaky) (xs now : List Flaky) (i : ℕ) (d y : Flaky) → i < length xs → now ≡ map F (take i xs) ++ drop i xs → y ≡ F (get_or now i d) → set now i y ≡ map F (take (i + 1) xs) ++ drop (i + 1) xs
one_more F xs now i d y h is change =
    let z = get_or xs i d in
    let len : length (map F (take i xs)) ≡ i = length-map (take i xs) F ∙ length-take-le i xs (omega arith) in
    let parts : now ≡ map F (take i xs) ++ z ∷ drop (i + 1) xs = is ∙ ap (λ t. map F (take i xs) ++ t) (rw add-one (drop-cons xs i d h)) in
    let own : get_or now i d ≡ z = ap (λ t. get_or t i d) parts ∙ ap (λ n. get_or (map F (take i xs) ++ z ∷ drop (i + 1) xs) n d) (sym len) ∙ get_or-append_seam (map F (take i xs)) z (drop (i + 1) xs) d in
    let front : map F (take (i + 1) xs) ≡ map F (take i xs) ++ F z ∷ [] = rw (add-one, take-suc xs i d h) (map-append F (take i xs) (z ∷ [])) in
    ap (λ t. set t i y) parts ∙ ap (λ n. set (map F (take i xs) ++ z ∷ drop (i + 1) xs) n y) (sym len) ∙ set-append_seam (map F (take i xs)) z (drop (i + 1) xs) y
    ∙ ap (λ v. map F (take i xs) ++ v ∷ drop (i + 1) xs) (change ∙ ap F own)
    ∙ sym (append_assoc (map F (take i xs)) (F z ∷ []) (drop (i + 1) xs))
    ∙ ap (λ t. t ++ drop (i + 1) xs) (sym front)

-- what the device tells does not change
pub content_kept : (first end : ℕ) (bytes same : List ℕ) (old new : List Flaky) → bytes ≡ same → new ≡ map (worn first end) old → weak_content bytes (sectors_of new) ≡ weak_content same (sectors_of old)
content_kept first end bytes same old new e is =
    ap (λ b. weak_content b (sectors_of new)) e ∙ ap (weak_content same) (ap sectors_of is ∙ sectors_worn first end old)

-- a buffer that was written whole
written_whole : (old new : List Flaky) (n : ℕ) → length old ≡ n → length new ≡ length old → take n (new ++ drop (length new) old) ≡ new
written_whole old new n e same = grind (arith, common_steps)

pub worn_items : (first end n : ℕ) (items was new same : List Flaky) → was ≡ items → length was ≡ n → new ≡ map (worn first end) was → items ≡ same → take n (new ++ drop (length new) items) ≡ map (worn first end) same
worn_items first end n items was new same e len is own =
    written_whole items new n (ap length (sym e) ∙ len) (ap length is ∙ length-map was (worn first end) ∙ ap length e)
    ∙ is ∙ ap (map (worn first end)) (e ∙ own)
