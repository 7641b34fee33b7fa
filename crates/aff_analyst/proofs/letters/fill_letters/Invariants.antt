use Rattle.std.proofs.Common.{◌≡◌, ℕ, ◌+◌, ◌<◌, length, get_or}
use Rattle.aff_map.specs.Symbol.{symbol_of}
use Rattle.aff_analyst.proofs.letters.fill_letters.Given as goal

abbrev pub invariant-loop-k : goal.invariant-loop-k
invariant-loop-k l = record {
  count : length l.out ≡ length l.initial.out;
  letters : (j : ℕ) → j < l.k → get_or l.out j 0 ≡ symbol_of l.target (l.at + j);
}
