use Rattle.std.proofs.Common.{ℕ, ◌<◌}
use Rattle.aff_bevvy.specs.Segments.{listed_length}
use Rattle.aff_volume.specs.Hashed.{IsHashed}
use Rattle.aff_bevvy.specs.Segments.{AreSorted}
use Rattle.aff_volume.proofs.segments.check_hashes.Given as goal

abbrev pub invariant-loop-bevvy : goal.invariant-loop-bevvy
invariant-loop-bevvy l = AreSorted l.segments → (b : ℕ) → b < l.bevvy → IsHashed (listed_length l.segments) l.stream l.chunks b
