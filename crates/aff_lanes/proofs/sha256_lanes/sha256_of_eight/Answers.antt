use Rattle.std.proofs.Common.{◌≡◌, length, take, drop, arith}
use Rattle.std.proofs.lemmas.List.{length-drop, length-take-le}
use Rattle.sha2.specs.Sha256.{sha256}
use Rattle.aff_lanes.specs.Messages.{text}
use Rattle.aff_lanes.proofs.Messages.{both_halves, first_length, last_length, one_length}
use Rattle.aff_lanes.proofs.sha256_lanes.sha256_of_eight.Goals as goal

pub sha256_of_four-requires : goal.sha256_of_four-requires
sha256_of_four-requires c =
    let messages = c.args.messages.now in
    let count : length (take 4 messages) ≡ 4 = length-take-le 4 messages (omega arith) in
    rw c.first_four.ensures (one_length (take 4 messages) (length (text messages 0)) (omega arith) (first_length messages c.told-messages c.requires))

pub sha256_of_four-requires-2 : goal.sha256_of_four-requires-2
sha256_of_four-requires-2 c =
    let messages = c.args.messages.now in
    let count : length (drop 4 messages) ≡ 4 = omega (arith, length-drop 4 messages) in
    rw c.last_four.ensures (one_length (drop 4 messages) (length (text messages 0)) (omega arith) (last_length messages c.told-messages c.requires))

pub returns : goal.returns
returns c =
    rw (c.joined.ensures, c.sha256_of_four.ensures, c.sha256_of_four-2.ensures, c.first_four.ensures, c.last_four.ensures) (both_halves sha256 c.args.messages.now)
