use Rattle.std.proofs.Common.{arith}
use Rattle.std.proofs.lemmas.List.{length-take-le}
use Rattle.aff_map.proofs.Overlaps.{apart-more}
use Rattle.aff_map.proofs.overlap.first_earlier.Goals as goal

pub unreachable-requires : goal.unreachable-requires
unreachable-requires c =
    let n = length-take-le c.args.later c.args.entries.now (omega (arith, c.requires.there)) in
    c.requires.some (apart-more c.args.entries.now c.args.later c.requires.there c.requires.before (λ k b. c.loop-i.invariant k (omega arith)))
