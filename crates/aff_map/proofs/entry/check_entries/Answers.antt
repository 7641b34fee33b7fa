use Rattle.std.proofs.Common.{arith}
use Rattle.aff_map.specs.Mapped.{IsEntry}
use Rattle.aff_map.proofs.Overlaps.{all_entries}
use Rattle.aff_map.proofs.entry.check_entries.Goals as goal

pub returns : goal.returns
returns c =
    all_entries (IsEntry c.args.size c.args.stream_size c.args.targets.now) c.args.entries.now (λ k b. c.loop-number.invariant k (omega arith))
