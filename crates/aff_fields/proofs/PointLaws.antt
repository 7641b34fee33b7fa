-- Laws of points: what was written reads back, alone and in a list, and what was read writes back.
use Rattle.std.proofs.Common.{◌≡◌, ℕ, zero, suc, ◌+◌, ◌*◌, ◌/◌, ◌%◌, ◌<◌, ◌≤◌, List, [], ◌∷◌, ◌++◌, length, take, drop, get_or, map, refl, sym, ap, ◌∙◌, arith, length-append, length-drop}
use Rattle.std.specs.Int.{to_le_bytes, w32}
use Rattle.std.specs.List.{All, flat_map}
use Rattle.std.specs.Simd.{first_chunks}
use Rattle.std.proofs.Math.Seq.{take-add}
use Rattle.std.proofs.lemmas.List.{append-nil, drop-drop, drop-take, take_all}
use Rattle.std.proofs.lemmas.List.Elements.{All-head, All-tail}
use Rattle.byteorder.specs.Endian.{little_number}
use Rattle.byteorder.specs.Numbers.{little_from-take, little_number-reads_back}
use Rattle.aff_fields.specs.declared.point.Point.{Point}
use Rattle.aff_fields.specs.Point.{FitsPoint, point_at, point_bytes, point_of, points_from, points_of}
use Rattle.aff_fields.proofs.Numbers.{AreBytes, AreBytes-drop, to_le_bytes-eight, to_le_bytes-four}

pub length-point_bytes : (p : Point) → length (point_bytes p) ≡ 12
length-point_bytes p = refl

pub drop-point_bytes : (p : Point) (rest : List ℕ) → drop 12 (point_bytes p ++ rest) ≡ rest
drop-point_bytes p rest = refl

-- a written point reads back, whatever stands behind it
pub point_of-point_bytes : (p : Point) (rest : List ℕ) → FitsPoint p → point_of (point_bytes p ++ rest) ≡ p
point_of-point_bytes p rest fits =
    let a : little_number 8 (point_bytes p ++ rest) ≡ p.at = little_number-reads_back 8 p.at (to_le_bytes w32 p.len ++ rest) fits.at in
    let b : little_number 4 (drop 8 (point_bytes p ++ rest)) ≡ p.len = little_number-reads_back 4 p.len rest fits.len in
    λ i. record { at = a i; len = b i }

-- the bytes of a point that was read
pub point_bytes-point_of : (xs : List ℕ) → AreBytes xs → 12 ≤ length xs → point_bytes (point_of xs) ≡ take 12 xs
point_bytes-point_of xs bytes long =
    let a = to_le_bytes-eight xs bytes (omega arith) in
    let b = to_le_bytes-four (drop 8 xs) (AreBytes-drop 8 xs bytes) (omega (arith, length-drop 8 xs)) in
    (λ i. a i ++ b i) ∙ sym (take-add 8 4 xs)

-- the same by its numbers, where no other byte is there
pub point_bytes-numbers : (xs : List ℕ) (a b : ℕ) → a ≡ little_number 8 xs → b ≡ little_number 4 (drop 8 xs) → ((k : ℕ) → get_or xs k 0 < 256) → length xs ≡ 12 → point_bytes (record { at = a; len = b }) ≡ xs
point_bytes-numbers xs a b is_a is_b small long =
    (λ i. point_bytes (record { at = is_a i; len = is_b i })) ∙ point_bytes-point_of xs (record { small = small }) (omega arith) ∙ take_all 12 xs (omega arith)

pub length-flat_map-point_bytes : (ps : List Point) → length (flat_map point_bytes ps) ≡ 12 * length ps
length-flat_map-point_bytes [] = refl
length-flat_map-point_bytes (p ∷ ps) =
    omega (arith, length-append (point_bytes p) (flat_map point_bytes ps), length-point_bytes p, length-flat_map-point_bytes ps)

pub length-points_from : (n : ℕ) (xs : List ℕ) → length (points_from n xs) ≡ n
length-points_from zero xs = refl
length-points_from (suc n) xs = ap suc (length-points_from n (drop 12 xs))

-- written points read back, whatever stands behind them
pub points_from-flat_map : (ps : List Point) (rest : List ℕ) → All FitsPoint ps → points_from (length ps) (flat_map point_bytes ps ++ rest) ≡ ps
points_from-flat_map [] rest fits = refl
points_from-flat_map (p ∷ ps) rest fits =
    let first = point_of-point_bytes p (flat_map point_bytes ps ++ rest) (All-head FitsPoint p ps fits) in
    let later = points_from-flat_map ps rest (All-tail FitsPoint p ps fits) in
    λ i. first i ∷ later i

pub points_of-flat_map : (ps : List Point) → All FitsPoint ps → points_of (flat_map point_bytes ps) ≡ ps
points_of-flat_map ps fits =
    let count : length (flat_map point_bytes ps) / 12 ≡ length ps = omega (arith, length-flat_map-point_bytes ps) in
    ap (λ n. points_from n (flat_map point_bytes ps)) count
    ∙ ap (points_from (length ps)) (sym (append-nil (flat_map point_bytes ps)))
    ∙ points_from-flat_map ps [] fits

-- point k of written points, whatever stands behind them
pub point_at-flat_map : (ps : List Point) (rest : List ℕ) (k : ℕ) (d : Point) → All FitsPoint ps → k < length ps → point_at (flat_map point_bytes ps ++ rest) k ≡ get_or ps k d
point_at-flat_map [] rest k d fits below = absurd (omega arith)
point_at-flat_map (p ∷ ps) rest zero d fits below =
    point_of-point_bytes p (flat_map point_bytes ps ++ rest) (All-head FitsPoint p ps fits)
point_at-flat_map (p ∷ ps) rest (suc k) d fits below =
    let more : 12 * suc k ≡ 12 + 12 * k = omega arith in
    ap (λ n. point_of (drop n (flat_map point_bytes (p ∷ ps) ++ rest))) more
    ∙ ap point_of (sym (drop-drop (12 * k) 12 (flat_map point_bytes (p ∷ ps) ++ rest)))
    ∙ point_at-flat_map ps rest k d (All-tail FitsPoint p ps fits) (omega arith)

-- a point reads only its twelve bytes
point_of-take : (xs : List ℕ) → point_of (take 12 xs) ≡ point_of xs
point_of-take xs =
    let a : little_number 8 (take 12 xs) ≡ little_number 8 xs = little_from-take 0 8 12 xs (omega arith) in
    let b : little_number 4 (drop 8 (take 12 xs)) ≡ little_number 4 (drop 8 xs) = ap (little_number 4) (drop-take 8 4 xs) ∙ little_from-take 0 4 4 (drop 8 xs) (omega arith) in
    λ i. record { at = a i; len = b i }

-- the points of twelve bytes each
pub map-first_chunks : (n : ℕ) (xs : List ℕ) → map point_of (first_chunks 12 n xs) ≡ points_from n xs
map-first_chunks zero xs = refl
map-first_chunks (suc n) xs =
    let first = point_of-take xs in
    let later = map-first_chunks n (drop 12 xs) in
    λ i. first i ∷ later i

-- point k of the points that were read
pub get_or-points_from : (n : ℕ) (xs : List ℕ) (k : ℕ) (d : Point) → k < n → get_or (points_from n xs) k d ≡ point_at xs k
get_or-points_from zero xs k d below = absurd (omega arith)
get_or-points_from (suc n) xs zero d below = refl
get_or-points_from (suc n) xs (suc k) d below =
    let more : 12 + 12 * k ≡ 12 * suc k = omega arith in
    get_or-points_from n (drop 12 xs) k d (omega arith)
    ∙ ap point_of (drop-drop (12 * k) 12 xs)
    ∙ ap (λ m. point_of (drop m xs)) more

-- points that were read write back
pub flat_map-points_from : (n : ℕ) (xs : List ℕ) → AreBytes xs → 12 * n ≤ length xs → flat_map point_bytes (points_from n xs) ≡ take (12 * n) xs
flat_map-points_from zero xs bytes long = refl
flat_map-points_from (suc n) xs bytes long =
    let first = point_bytes-point_of xs bytes (omega arith) in
    let later = flat_map-points_from n (drop 12 xs) (AreBytes-drop 12 xs bytes) (omega (arith, length-drop 12 xs)) in
    let more : 12 * suc n ≡ 12 + 12 * n = omega arith in
    (λ i. first i ++ later i) ∙ sym (take-add 12 (12 * n) xs) ∙ ap (λ m. take m xs) (sym more)

pub flat_map-points_of : (xs : List ℕ) → AreBytes xs → length xs % 12 ≡ 0 → flat_map point_bytes (points_of xs) ≡ xs
flat_map-points_of xs bytes whole =
    flat_map-points_from (length xs / 12) xs bytes (omega arith) ∙ take_all (12 * (length xs / 12)) xs (omega arith)

-- what is read of whole fields, and that it writes back
pub points_of-chunks : (xs : List ℕ) (v : List Point) → v ≡ map point_of (first_chunks 12 (length xs / 12) xs) → v ≡ points_of xs
points_of-chunks xs v is = is ∙ map-first_chunks (length xs / 12) xs

pub flat_map-chunks : (xs : List ℕ) (v : List Point) → v ≡ map point_of (first_chunks 12 (length xs / 12) xs) → ((k : ℕ) → get_or xs k 0 < 256) → length xs % 12 ≡ 0 → flat_map point_bytes v ≡ xs
flat_map-chunks xs v is small whole =
    ap (flat_map point_bytes) (points_of-chunks xs v is) ∙ flat_map-points_of xs (record { small = small }) whole
