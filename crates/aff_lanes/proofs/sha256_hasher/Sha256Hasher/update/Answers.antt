use Rattle.std.proofs.Common.{ℕ, ◌+◌, ◌-◌, ◌*◌, ◌/◌, ◌%◌, List, length, subst, arith}
use Rattle.std.proofs.lemmas.List.{take_rest}
use Rattle.aff_lanes.specs.Hasher.{Holds}
use Rattle.aff_lanes.proofs.Hasher.{three_pieces}
use Rattle.aff_lanes.proofs.sha256_hasher.Sha256Hasher.update.Goals as goal

pub returns-else-bytes-room : goal.returns-else-bytes-room
returns-else-bytes-room c = λ m held.
    let bytes = c.args.bytes.now in
    let room : ℕ = 256 - c.args.self.now.total % 256 in
    let whole : ℕ = room + (length bytes - room) / 256 * 256 in
    let fed = c.keep-else-bytes-room.ensures _ (c.take.ensures.held _ (c.fill.ensures.held m held)) in
    let HoldsAll : List ℕ → Type 0 = λ x. Holds c.keep-else-bytes-room.new.self x in
    subst HoldsAll (three_pieces m bytes _ room whole (omega arith) (take_rest bytes whole)) fed
