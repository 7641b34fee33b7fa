use Rattle.std.proofs.Common.{◌≡◌, take, vec_capacity, vec_len}
use Rattle.aff_examine.proofs.seeing.copied.Given as goal

abbrev pub invariant-loop-number : goal.invariant-loop-number
invariant-loop-number l = record {
  items : l.copy.items ≡ take l.number-index l.numbers;
  len : vec_len l.copy ≡ l.number-index;
  room : vec_capacity l.copy ≡ vec_capacity l.fn.room;
}
