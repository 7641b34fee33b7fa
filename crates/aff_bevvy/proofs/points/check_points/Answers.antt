use Rattle.std.proofs.Common.{◌<◌, length, arith}
use Rattle.std.proofs.lemmas.Option.{slice_get_within}
use Rattle.aff_fields.specs.declared.point.Point.{Point}
use Rattle.aff_bevvy.proofs.ChunkPoints.{one_point_more, first_of_points, of_points}
use Rattle.aff_bevvy.proofs.points.check_points.Goals as goal

abbrev none : Point
none = record { at = 0; len = 0 }

pub loop-k-preserved : goal.loop-k-preserved
loop-k-preserved c = one_point_more c.args.points.now c.args.size c.args.len c.args.first c.loop-k.k none c.loop-k-test.true c.loop-k.invariant c.in_default.ensures.ok

pub returns-in-Err-clause-fault : goal.returns-in-Err-clause-fault
returns-in-Err-clause-fault c =
    first_of_points c.args.points.now c.args.size c.args.len c.args.first c.loop-k.k none c.in-Err.fault c.loop-k-test.true c.loop-k.invariant c.in-Err.ensures.fault

pub returns-in-Err-clause-late : goal.returns-in-Err-clause-late
returns-in-Err-clause-late c = of_points c.args.size c.args.len _ _ c.in-Err.fault c.in-Err.ensures.fault

pub returns-clause-ok : goal.returns-clause-ok
returns-clause-ok c = λ k p is.
    let low : k < length c.args.points.now = slice_get_within c.args.points.now k p is in
    c.loop-k.invariant k (omega (arith, low, c.loop-k-test.false)) p is
