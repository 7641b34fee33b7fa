use Rattle.std.proofs.Common.{◌≡◌, ◌+◌, ◌-◌, ◌*◌, ◌/◌, length, ap, ◌∙◌, arith}
use Rattle.aff_spec.proofs.Chunks.{length-chunk_at}
use Rattle.aff_hash.proofs.Entries.{whole_chunk}
use Rattle.aff_hash.proofs.chosen.chunk.Goals as goal

pub returns-then-number-bytes-clause-chunk : goal.returns-then-number-bytes-clause-chunk
returns-then-number-bytes-clause-chunk c =
    let width : 32768 * (c.args.number + 1) - 32768 * c.args.number ≡ 32768 = omega arith in
    rw width (whole_chunk c.args.bytes.now c.args.number (omega arith))

pub returns-else-number-bytes-clause-len : goal.returns-else-number-bytes-clause-len
returns-else-number-bytes-clause-len c = ap length c.requires.end ∙ length-chunk_at c.args.bytes.now (length c.args.bytes.now / 32768)
