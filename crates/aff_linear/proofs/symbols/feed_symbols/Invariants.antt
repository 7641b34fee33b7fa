use Rattle.std.proofs.Common.{◌≡◌, ◌-◌, ◌≤◌, ◌++◌, map}
use Rattle.std.specs.List.{range_with_len}
use Rattle.aff_map.specs.Symbol.{symbol_of}
use Rattle.aff_linear.proofs.symbols.feed_symbols.Given as goal

abbrev pub invariant-loop-done : goal.invariant-loop-done
invariant-loop-done g l = record {
  low : l.done ≤ l.len;
  fed : l.feeder ≡ l.initial.feeder ++ map (symbol_of l.target) (range_with_len l.at l.done);
}

abbrev pub decreases-loop-done : goal.decreases-loop-done
decreases-loop-done g l = l.len - l.done
