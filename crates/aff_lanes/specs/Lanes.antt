-- Vectors of words, with one lane for each of four messages.
use Rattle.std.specs.Prelude.{ℕ, List, [], ◌∷◌, slice_index, slice_index_or, map}

-- lane j of vector k
abbrev pub lane_at : List (List ℕ) → ℕ → ℕ → ℕ
lane_at x k j = slice_index (slice_index_or x k []) j

-- lane j of each of four vectors
abbrev pub four : ℕ → List (List ℕ) → List ℕ
four j x = lane_at x 0 j ∷ lane_at x 1 j ∷ lane_at x 2 j ∷ lane_at x 3 j ∷ []

-- lane j of each of five vectors
abbrev pub five : ℕ → List (List ℕ) → List ℕ
five j x = lane_at x 0 j ∷ lane_at x 1 j ∷ lane_at x 2 j ∷ lane_at x 3 j ∷ lane_at x 4 j ∷ []

-- lane j of each of eight vectors
abbrev pub eight : ℕ → List (List ℕ) → List ℕ
eight j x =
    lane_at x 0 j ∷ lane_at x 1 j ∷ lane_at x 2 j ∷ lane_at x 3 j
    ∷ lane_at x 4 j ∷ lane_at x 5 j ∷ lane_at x 6 j ∷ lane_at x 7 j ∷ []

-- lane j of each of the vectors
abbrev pub words : ℕ → List (List ℕ) → List ℕ
words j x = map (λ v. slice_index v j) x

-- the four lanes
abbrev pub lanes : List ℕ
lanes = 0 ∷ 1 ∷ 2 ∷ 3 ∷ []
