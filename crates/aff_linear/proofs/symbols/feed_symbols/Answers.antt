use Rattle.std.proofs.Common.{◌+◌, map, refl, arith}
use Rattle.std.specs.List.{range_with_len}
use Rattle.aff_map.specs.Symbol.{symbol_of}
use Rattle.aff_linear.proofs.Pieces.{fed_more}
use Rattle.aff_linear.proofs.symbols.feed_symbols.Goals as goal

pub loop-done-preserved : goal.loop-done-preserved
loop-done-preserved g c = record {
  low = omega (arith, c.take_symbols-done.ensures.few, c.loop-done-test.true);
  fed =
      fed_more (symbol_of c.args.target) c.args.at c.loop-done.done c.take_symbols-done.result c.args.feeder.now c.loop-done.feeder c.take_symbols-done.new.self
      (map (symbol_of c.args.target) (range_with_len (c.args.at + c.loop-done.done) c.take_symbols-done.result))
      c.loop-done.invariant.fed c.take_symbols-done.ensures.fed refl;
}
