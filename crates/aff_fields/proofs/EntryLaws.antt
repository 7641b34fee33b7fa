-- Laws of entries: what was written reads back, alone and in a list, and what was read writes back.
use Rattle.std.proofs.Common.{◌≡◌, ℕ, zero, suc, ◌+◌, ◌*◌, ◌/◌, ◌%◌, ◌<◌, ◌≤◌, List, [], ◌∷◌, ◌++◌, length, take, drop, get_or, map, refl, sym, ap, ◌∙◌, arith, length-append, length-drop}
use Rattle.std.specs.Int.{to_le_bytes, w64, w32}
use Rattle.std.specs.List.{All, flat_map}
use Rattle.std.specs.Simd.{first_chunks}
use Rattle.std.proofs.Math.Seq.{take-add}
use Rattle.std.proofs.lemmas.List.{append-nil, drop-drop, drop-take, take_all}
use Rattle.std.proofs.lemmas.List.Elements.{All-head, All-tail}
use Rattle.byteorder.specs.Endian.{little_number}
use Rattle.byteorder.specs.Numbers.{little_from-take, little_number-reads_back}
use Rattle.aff_fields.specs.declared.entry.Entry.{Entry}
use Rattle.aff_fields.specs.Entry.{FitsEntry, entry_bytes, entry_of, entries_from, entries_of}
use Rattle.aff_fields.proofs.Numbers.{AreBytes, AreBytes-drop, to_le_bytes-eight, to_le_bytes-four}

-- the first 28 in four parts
quarters : (xs : List ℕ) → take 28 xs ≡ take 8 xs ++ (take 8 (drop 8 xs) ++ (take 8 (drop 16 xs) ++ take 4 (drop 24 xs)))
quarters xs =
    take-add 8 20 xs
    ∙ ap (λ v. take 8 xs ++ v) (take-add 8 12 (drop 8 xs))
    ∙ ap (λ v. take 8 xs ++ (take 8 (drop 8 xs) ++ v)) (take-add 8 4 (drop 8 (drop 8 xs)))
    ∙ ap (λ v. take 8 xs ++ (take 8 (drop 8 xs) ++ (take 8 v ++ take 4 (drop 8 v)))) (drop-drop 8 8 xs)
    ∙ ap (λ v. take 8 xs ++ (take 8 (drop 8 xs) ++ (take 8 (drop 16 xs) ++ take 4 v))) (drop-drop 8 16 xs)

pub length-entry_bytes : (e : Entry) → length (entry_bytes e) ≡ 28
length-entry_bytes e = refl

pub drop-entry_bytes : (e : Entry) (rest : List ℕ) → drop 28 (entry_bytes e ++ rest) ≡ rest
drop-entry_bytes e rest = refl

-- a written entry reads back, whatever stands behind it
pub entry_of-entry_bytes : (e : Entry) (rest : List ℕ) → FitsEntry e → entry_of (entry_bytes e ++ rest) ≡ e
entry_of-entry_bytes e rest fits =
    let a : little_number 8 (entry_bytes e ++ rest) ≡ e.at = little_number-reads_back 8 e.at (to_le_bytes w64 e.len ++ (to_le_bytes w64 e.target_at ++ (to_le_bytes w32 e.target ++ rest))) fits.at in
    let b : little_number 8 (drop 8 (entry_bytes e ++ rest)) ≡ e.len = little_number-reads_back 8 e.len (to_le_bytes w64 e.target_at ++ (to_le_bytes w32 e.target ++ rest)) fits.len in
    let c : little_number 8 (drop 16 (entry_bytes e ++ rest)) ≡ e.target_at = little_number-reads_back 8 e.target_at (to_le_bytes w32 e.target ++ rest) fits.target_at in
    let f : little_number 4 (drop 24 (entry_bytes e ++ rest)) ≡ e.target = little_number-reads_back 4 e.target rest fits.target in
    λ i. record { at = a i; len = b i; target_at = c i; target = f i }

-- the bytes of an entry that was read
pub entry_bytes-entry_of : (xs : List ℕ) → AreBytes xs → 28 ≤ length xs → entry_bytes (entry_of xs) ≡ take 28 xs
entry_bytes-entry_of xs bytes long =
    let a = to_le_bytes-eight xs bytes (omega arith) in
    let b = to_le_bytes-eight (drop 8 xs) (AreBytes-drop 8 xs bytes) (omega (arith, length-drop 8 xs)) in
    let c = to_le_bytes-eight (drop 16 xs) (AreBytes-drop 16 xs bytes) (omega (arith, length-drop 16 xs)) in
    let f = to_le_bytes-four (drop 24 xs) (AreBytes-drop 24 xs bytes) (omega (arith, length-drop 24 xs)) in
    (λ i. a i ++ (b i ++ (c i ++ f i))) ∙ sym (quarters xs)

-- the same by its numbers, where no other byte is there
pub entry_bytes-numbers : (xs : List ℕ) (a b c f : ℕ) → a ≡ little_number 8 xs → b ≡ little_number 8 (drop 8 xs) → c ≡ little_number 8 (drop 16 xs) → f ≡ little_number 4 (drop 24 xs) → ((k : ℕ) → get_or xs k 0 < 256) → length xs ≡ 28 → entry_bytes (record { at = a; len = b; target_at = c; target = f }) ≡ xs
entry_bytes-numbers xs a b c f is_a is_b is_c is_f small long =
    (λ i. entry_bytes (record { at = is_a i; len = is_b i; target_at = is_c i; target = is_f i })) ∙ entry_bytes-entry_of xs (record { small = small }) (omega arith) ∙ take_all 28 xs (omega arith)

pub length-flat_map-entry_bytes : (es : List Entry) → length (flat_map entry_bytes es) ≡ 28 * length es
length-flat_map-entry_bytes [] = refl
length-flat_map-entry_bytes (e ∷ es) =
    omega (arith, length-append (entry_bytes e) (flat_map entry_bytes es), length-entry_bytes e, length-flat_map-entry_bytes es)

pub length-entries_from : (n : ℕ) (xs : List ℕ) → length (entries_from n xs) ≡ n
length-entries_from zero xs = refl
length-entries_from (suc n) xs = ap suc (length-entries_from n (drop 28 xs))

-- written entries read back, whatever stands behind them
pub entries_from-flat_map : (es : List Entry) (rest : List ℕ) → All FitsEntry es → entries_from (length es) (flat_map entry_bytes es ++ rest) ≡ es
entries_from-flat_map [] rest fits = refl
entries_from-flat_map (e ∷ es) rest fits =
    let first = entry_of-entry_bytes e (flat_map entry_bytes es ++ rest) (All-head FitsEntry e es fits) in
    let later = entries_from-flat_map es rest (All-tail FitsEntry e es fits) in
    λ i. first i ∷ later i

pub entries_of-flat_map : (es : List Entry) → All FitsEntry es → entries_of (flat_map entry_bytes es) ≡ es
entries_of-flat_map es fits =
    let count : length (flat_map entry_bytes es) / 28 ≡ length es = omega (arith, length-flat_map-entry_bytes es) in
    ap (λ n. entries_from n (flat_map entry_bytes es)) count
    ∙ ap (entries_from (length es)) (sym (append-nil (flat_map entry_bytes es)))
    ∙ entries_from-flat_map es [] fits

-- entry k of written entries, whatever stands behind them
pub entry_of-drop-flat_map : (es : List Entry) (rest : List ℕ) (k : ℕ) (d : Entry) → All FitsEntry es → k < length es → entry_of (drop (28 * k) (flat_map entry_bytes es ++ rest)) ≡ get_or es k d
entry_of-drop-flat_map [] rest k d fits below = absurd (omega arith)
entry_of-drop-flat_map (e ∷ es) rest zero d fits below =
    entry_of-entry_bytes e (flat_map entry_bytes es ++ rest) (All-head FitsEntry e es fits)
entry_of-drop-flat_map (e ∷ es) rest (suc k) d fits below =
    let more : 28 * suc k ≡ 28 + 28 * k = omega arith in
    ap (λ n. entry_of (drop n (flat_map entry_bytes (e ∷ es) ++ rest))) more
    ∙ ap entry_of (sym (drop-drop (28 * k) 28 (flat_map entry_bytes (e ∷ es) ++ rest)))
    ∙ entry_of-drop-flat_map es rest k d (All-tail FitsEntry e es fits) (omega arith)

-- an entry reads only its 28 bytes
entry_of-take : (xs : List ℕ) → entry_of (take 28 xs) ≡ entry_of xs
entry_of-take xs =
    let a : little_number 8 (take 28 xs) ≡ little_number 8 xs = little_from-take 0 8 28 xs (omega arith) in
    let b : little_number 8 (drop 8 (take 28 xs)) ≡ little_number 8 (drop 8 xs) = ap (little_number 8) (drop-take 8 20 xs) ∙ little_from-take 0 8 20 (drop 8 xs) (omega arith) in
    let c : little_number 8 (drop 16 (take 28 xs)) ≡ little_number 8 (drop 16 xs) = ap (little_number 8) (drop-take 16 12 xs) ∙ little_from-take 0 8 12 (drop 16 xs) (omega arith) in
    let f : little_number 4 (drop 24 (take 28 xs)) ≡ little_number 4 (drop 24 xs) = ap (little_number 4) (drop-take 24 4 xs) ∙ little_from-take 0 4 4 (drop 24 xs) (omega arith) in
    λ i. record { at = a i; len = b i; target_at = c i; target = f i }

-- the entries of 28 bytes each
pub map-first_chunks : (n : ℕ) (xs : List ℕ) → map entry_of (first_chunks 28 n xs) ≡ entries_from n xs
map-first_chunks zero xs = refl
map-first_chunks (suc n) xs =
    let first = entry_of-take xs in
    let later = map-first_chunks n (drop 28 xs) in
    λ i. first i ∷ later i

-- entry k of the entries that were read
pub get_or-entries_from : (n : ℕ) (xs : List ℕ) (k : ℕ) (d : Entry) → k < n → get_or (entries_from n xs) k d ≡ entry_of (drop (28 * k) xs)
get_or-entries_from zero xs k d below = absurd (omega arith)
get_or-entries_from (suc n) xs zero d below = refl
get_or-entries_from (suc n) xs (suc k) d below =
    let more : 28 + 28 * k ≡ 28 * suc k = omega arith in
    get_or-entries_from n (drop 28 xs) k d (omega arith)
    ∙ ap entry_of (drop-drop (28 * k) 28 xs)
    ∙ ap (λ m. entry_of (drop m xs)) more

-- entries that were read write back
pub flat_map-entries_from : (n : ℕ) (xs : List ℕ) → AreBytes xs → 28 * n ≤ length xs → flat_map entry_bytes (entries_from n xs) ≡ take (28 * n) xs
flat_map-entries_from zero xs bytes long = refl
flat_map-entries_from (suc n) xs bytes long =
    let first = entry_bytes-entry_of xs bytes (omega arith) in
    let later = flat_map-entries_from n (drop 28 xs) (AreBytes-drop 28 xs bytes) (omega (arith, length-drop 28 xs)) in
    let more : 28 * suc n ≡ 28 + 28 * n = omega arith in
    (λ i. first i ++ later i) ∙ sym (take-add 28 (28 * n) xs) ∙ ap (λ m. take m xs) (sym more)

pub flat_map-entries_of : (xs : List ℕ) → AreBytes xs → length xs % 28 ≡ 0 → flat_map entry_bytes (entries_of xs) ≡ xs
flat_map-entries_of xs bytes whole =
    flat_map-entries_from (length xs / 28) xs bytes (omega arith) ∙ take_all (28 * (length xs / 28)) xs (omega arith)

-- what is read of whole fields, and that it writes back
pub entries_of-chunks : (xs : List ℕ) (v : List Entry) → v ≡ map entry_of (first_chunks 28 (length xs / 28) xs) → v ≡ entries_of xs
entries_of-chunks xs v is = is ∙ map-first_chunks (length xs / 28) xs

pub flat_map-chunks : (xs : List ℕ) (v : List Entry) → v ≡ map entry_of (first_chunks 28 (length xs / 28) xs) → ((k : ℕ) → get_or xs k 0 < 256) → length xs % 28 ≡ 0 → flat_map entry_bytes v ≡ xs
flat_map-chunks xs v is small whole =
    ap (flat_map entry_bytes) (entries_of-chunks xs v is) ∙ flat_map-entries_of xs (record { small = small }) whole
