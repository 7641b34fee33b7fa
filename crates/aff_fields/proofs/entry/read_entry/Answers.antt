use Rattle.std.proofs.Common.{◌≡◌, drop, arith}
use Rattle.std.proofs.lemmas.Grind.{common_steps}
use Rattle.byteorder.specs.Endian.{little_number}
use Rattle.aff_fields.proofs.EntryLaws.{entry_bytes-numbers}
use Rattle.aff_fields.proofs.entry.read_entry.Goals as goal

pub returns-clause-bytes : goal.returns-clause-bytes
returns-clause-bytes c =
    let len : c.read_u64-2.result ≡ little_number 8 (drop 8 c.args.bytes.now) = grind (arith, common_steps) in
    let target_at : c.read_u64-3.result ≡ little_number 8 (drop 16 c.args.bytes.now) = grind (arith, common_steps) in
    let target : c.read_u32.result ≡ little_number 4 (drop 24 c.args.bytes.now) = grind (arith, common_steps) in
    entry_bytes-numbers c.args.bytes.now _ _ _ _ c.read_u64.ensures len target_at target c.fits-bytes (omega arith)
