use Rattle.std.proofs.Common.{◌≡◌, ℕ, ◌<◌, ◌+◌, ◌*◌, length}
use Rattle.md5.specs.Md5.{word_at}
use Rattle.aff_lanes.specs.Lanes.{lane_at}
use Rattle.aff_lanes.specs.Messages.{text}
use Rattle.aff_lanes.proofs.md5_lanes.blocks.Given as goal

abbrev pub invariant-load : goal.invariant-load
invariant-load l = (length l.w ≡ 16) × ((j : ℕ) → j < 4 → (k : ℕ) → k < l.i → lane_at l.w k j ≡ word_at (text l.messages j) (l.at + 4 * k))
