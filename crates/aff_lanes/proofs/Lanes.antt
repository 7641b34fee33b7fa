-- What holds of each lane of a vector, and the words of one lane.
use Rattle.std.proofs.Common.{Fits, w32, ◌≡◌, ℕ, zero, suc, ◌<◌, ◌^◌, List, [], ◌∷◌, length, slice_index, bit_or, arith, refl}
use Rattle.std.proofs.Math.ListN.{get_or-map}
use Rattle.std.proofs.lemmas.List.{length-map}
use Rattle.std.specs.Simd.Lanes.{zip2, Each1}
use Rattle.std.proofs.lemmas.Simd.{Each1-get_or}
use Rattle.aff_lanes.specs.Lanes.{lane_at, words}

-- what holds of each of the four lanes
pub below_four : (P : ℕ → Type 0) → P 0 → P 1 → P 2 → P 3 → (j : ℕ) → j < 4 → P j
below_four P p0 p1 p2 p3 zero h = p0
below_four P p0 p1 p2 p3 (suc zero) h = p1
below_four P p0 p1 p2 p3 (suc (suc zero)) h = p2
below_four P p0 p1 p2 p3 (suc (suc (suc zero))) h = p3
below_four P p0 p1 p2 p3 (suc (suc (suc (suc n)))) h = absurd (omega arith)

-- what holds of each list of four elements
pub four_lanes : (P : List ℕ → Type 0) → ((a b c d : ℕ) → P (a ∷ b ∷ c ∷ d ∷ [])) → (xs : List ℕ) → length xs ≡ 4 → P xs
four_lanes P p (a ∷ b ∷ c ∷ d ∷ []) h = p a b c d
four_lanes P p [] h = absurd (omega arith)
four_lanes P p (a ∷ []) h = absurd (omega arith)
four_lanes P p (a ∷ b ∷ []) h = absurd (omega arith)
four_lanes P p (a ∷ b ∷ c ∷ []) h = absurd (omega arith)
four_lanes P p (a ∷ b ∷ c ∷ d ∷ e ∷ xs) h = absurd (omega arith)

-- word k of the words in lane j
pub slice_index-words : (x : List (List ℕ)) (j k : ℕ) → slice_index (words j x) k ≡ lane_at x k j
slice_index-words x j k = get_or-map (λ (v : List ℕ). slice_index v j) x k []

-- a shift of each lane by the same number of places
abbrev Shifts : (ℕ → ℕ → ℕ) → ℕ → List ℕ → Type 0
Shifts f k x = (j : ℕ) → j < 4 → slice_index (zip2 f x (k ∷ k ∷ k ∷ k ∷ [])) j ≡ f (slice_index x j) k

pub one_shift : (f : ℕ → ℕ → ℕ) (k : ℕ) (x : List ℕ) → length x ≡ 4 → Shifts f k x
one_shift f k = four_lanes (Shifts f k) (λ a b c d. below_four _ refl refl refl refl)

-- two shifts of each lane, and an or
abbrev ShiftsOr : (ℕ → ℕ → ℕ) → (ℕ → ℕ → ℕ) → ℕ → ℕ → List ℕ → Type 0
ShiftsOr f g k m x = (j : ℕ) → j < 4
    → slice_index (zip2 bit_or (zip2 f x (k ∷ k ∷ k ∷ k ∷ [])) (zip2 g x (m ∷ m ∷ m ∷ m ∷ []))) j
    ≡ bit_or (f (slice_index x j) k) (g (slice_index x j) m)

pub two_shifts : (f g : ℕ → ℕ → ℕ) (k m : ℕ) (x : List ℕ) → length x ≡ 4 → ShiftsOr f g k m x
two_shifts f g k m = four_lanes (ShiftsOr f g k m) (λ a b c d. below_four _ refl refl refl refl)

pub length-words : (x : List (List ℕ)) (j : ℕ) → length (words j x) ≡ length x
length-words x j = length-map x (λ (v : List ℕ). slice_index v j)

-- a lane is a word
pub lane_below : (x : List ℕ) (j : ℕ) → length x ≡ 4 → Each1 (Fits w32) x → j < 4 → slice_index x j < 2 ^ 32
lane_below x j len fits low = (Each1-get_or (Fits w32) x j 0 (omega arith) fits).fits
