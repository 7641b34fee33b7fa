use Rattle.std.proofs.Common.{◌≡◌, take}
use Rattle.std.specs.List.{All, flat_map}
use Rattle.aff_fields.specs.Point.{FitsPoint, point_bytes}
use Rattle.aff_fields.proofs.point.joined.Given as goal

abbrev pub invariant-loop-point : goal.invariant-loop-point
invariant-loop-point l = record {
  written : l.bytes.items ≡ flat_map point_bytes (take l.point-index l.points);
  fits : All FitsPoint (take l.point-index l.points);
}
