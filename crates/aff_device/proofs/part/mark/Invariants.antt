use Rattle.std.proofs.Common.{◌≡◌, ◌+◌, ◌++◌, vec_len, vec_capacity}
use Rattle.std.specs.List.{range_with_len}
use Rattle.aff_device.proofs.part.mark.Given as goal

abbrev pub invariant-loop-sector : goal.invariant-loop-sector
invariant-loop-sector l = record {
  items : l.bad.items ≡ l.initial.bad.items ++ range_with_len l.first l.sector;
  room : vec_capacity l.bad ≡ vec_capacity l.initial.bad;
  len : vec_len l.bad ≡ vec_len l.initial.bad + l.sector;
}
