use Rattle.std.proofs.Common.{◌≡◌, drop, arith}
use Rattle.std.proofs.lemmas.Grind.{common_steps}
use Rattle.byteorder.specs.Endian.{little_number}
use Rattle.aff_fields.proofs.PointLaws.{point_bytes-numbers}
use Rattle.aff_fields.proofs.point.read_point.Goals as goal

pub returns-clause-bytes : goal.returns-clause-bytes
returns-clause-bytes c =
    let b : c.read_u32.result ≡ little_number 4 (drop 8 c.args.bytes.now) = grind (arith, common_steps) in
    point_bytes-numbers c.args.bytes.now _ _ c.read_u64.ensures b c.fits-bytes (omega arith)
