use Rattle.std.proofs.Common.{◌∙◌, sym, ap, arith}
use Rattle.std.specs.List.{flat_map}
use Rattle.std.proofs.lemmas.List.{take_all}
use Rattle.std.proofs.lemmas.List.Elements.{All-more, All-same}
use Rattle.std.proofs.lemmas.Grind.{common_steps}
use Rattle.aff_fields.specs.Point.{FitsPoint, point_bytes, points_of}
use Rattle.aff_fields.proofs.PointLaws.{points_of-flat_map}
use Rattle.aff_fields.proofs.point.joined.Goals as goal

pub loop-point-preserved : goal.loop-point-preserved
loop-point-preserved c = record {
  written = grind (arith, common_steps);
  fits = All-more FitsPoint c.args.points.now c.loop-point.point-index _ c.loop-point-test.true c.loop-point.invariant.fits c.write_point.ensures.fits;
}

pub returns-clause-reads_back : goal.returns-clause-reads_back
returns-clause-reads_back c =
    let all = take_all c.loop-point.point-index c.args.points.now c.loop-point-test.false in
    let written = c.loop-point.invariant.written ∙ ap (flat_map point_bytes) all in
    ap points_of written ∙ points_of-flat_map c.args.points.now (All-same FitsPoint _ _ (sym all) c.loop-point.invariant.fits)
