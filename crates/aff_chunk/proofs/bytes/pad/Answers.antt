use Rattle.std.proofs.Common.{◌*◌, length, drop, ap, arith, length-take}
use Rattle.aff_chunk.proofs.bytes.pad.Goals as goal

pub split_at_mut-front-requires : goal.split_at_mut-front-requires
split_at_mut-front-requires c = omega (arith, c.requires.room, ap length c.part-chunk.ensures, length-take 32768 (drop (32768 * c.args.chunk) c.args.bytes.now))
