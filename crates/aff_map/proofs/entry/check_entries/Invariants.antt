use Rattle.std.proofs.Common.{ℕ, ◌<◌}
use Rattle.aff_map.specs.Mapped.{IsEntry}
use Rattle.aff_map.specs.Refusals.{entry_at}
use Rattle.aff_map.proofs.entry.check_entries.Given as goal

abbrev pub invariant-loop-number : goal.invariant-loop-number
invariant-loop-number l = (k : ℕ) → k < l.number → IsEntry l.size l.stream_size l.targets (entry_at l.entries k)
