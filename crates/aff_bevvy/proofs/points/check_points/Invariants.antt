use Rattle.std.proofs.Common.{◌≡◌, ℕ, ◌+◌, ◌<◌}
use Rattle.std.specs.Prelude.{Some, slice_get}
use Rattle.aff_fields.specs.declared.point.Point.{Point}
use Rattle.aff_bevvy.specs.Streams.{IsPoint}
use Rattle.aff_bevvy.proofs.points.check_points.Given as goal

abbrev pub invariant-loop-k : goal.invariant-loop-k
invariant-loop-k l = (k : ℕ) → k < l.k → (p : Point) → slice_get l.points k ≡ Some p → IsPoint l.size l.len (l.first + k) p
