use Rattle.std.proofs.Common.{◌≡◌, ℕ, ◌<◌, ◌+◌, ◌*◌, length}
use Rattle.sha2.specs.Sha256.{word_at}
use Rattle.aff_lanes.specs.Lanes.{lane_at}
use Rattle.aff_lanes.specs.Messages.{text}
use Rattle.aff_lanes.proofs.sha256_lanes.compress_lanes.Given as goal

abbrev pub invariant-load : goal.invariant-load
invariant-load l = (length l.w ≡ 16) × ((j : ℕ) → j < 4 → (k : ℕ) → k < l.i → lane_at l.w k j ≡ word_at (text l.messages j) (l.at + 4 * k))
