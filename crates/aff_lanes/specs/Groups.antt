-- A group of four blocks of one message, whose schedules are computed side by side.
use Rattle.std.specs.Prelude.{◌≡◌, ℕ, ◌+◌, ◌*◌, ◌<◌, List, slice_index}
use Rattle.sha2.specs.Sha256.{add32, round_constants, schedule}

-- the first n words of the schedule of block b stand in lane j, each with its round's constant added
abbrev pub HasWords : List ℕ → ℕ → List ℕ → ℕ → Type 0
HasWords flat j b n = (t : ℕ) → t < n → slice_index flat (4 * t + j) ≡ add32 (slice_index (schedule b 48) t) (slice_index round_constants t)
