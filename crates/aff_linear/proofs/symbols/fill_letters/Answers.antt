use Rattle.std.proofs.Common.{length, arith}
use Rattle.aff_map.specs.Symbol.{symbol_of}
use Rattle.aff_linear.proofs.Pieces.{is_range}
use Rattle.aff_linear.proofs.symbols.fill_letters.Goals as goal

pub returns : goal.returns
returns c =
    is_range (symbol_of c.args.target) c.args.at (length c.args.out.now) c.loop-k.out c.loop-k.invariant.count
    (λ k below. c.loop-k.invariant.letters k (omega (arith, below)))
