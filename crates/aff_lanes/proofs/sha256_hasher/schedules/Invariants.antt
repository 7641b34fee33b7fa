use Rattle.std.proofs.Common.{◌≡◌, ℕ, ◌<◌, ◌*◌, length}
use Rattle.sha2.specs.Sha256.{IsWindow, schedule, word_at}
use Rattle.aff_lanes.specs.Groups.{HasWords}
use Rattle.aff_lanes.specs.Lanes.{lane_at, words}
use Rattle.aff_lanes.specs.Messages.{text}
use Rattle.aff_lanes.proofs.sha256_hasher.schedules.Given as goal

abbrev pub invariant-load : goal.invariant-load
invariant-load l = (length l.w ≡ 16)
    × ((j : ℕ) → j < 4 → (k : ℕ) → k < l.t → lane_at l.w k j ≡ word_at (text l.blocks j) (4 * k))
    × ((j : ℕ) → j < 4 → HasWords l.flat j (text l.blocks j) l.t)

abbrev pub invariant-schedule : goal.invariant-schedule
invariant-schedule l = (j : ℕ) → j < 4
    → IsWindow (words j l.w) (schedule (text l.blocks j) 48) (16 * l.turn) × HasWords l.flat j (text l.blocks j) (16 * l.turn)
