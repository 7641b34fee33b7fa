use Rattle.std.proofs.Common.{◌≡◌, map, take}
use Rattle.std.specs.List.{flat_map}
use Rattle.aff_blockhash.specs.Kept.{kept_digest}
use Rattle.aff_blockhash.specs.Pending.{sums_in}
use Rattle.aff_blockhash.proofs.segment.joined.Given as goal

abbrev pub invariant-loop-sums : goal.invariant-loop-sums
invariant-loop-sums l = l.bytes.items ≡ flat_map (kept_digest l.kept) (map sums_in (take l.sums-index l.sums))
