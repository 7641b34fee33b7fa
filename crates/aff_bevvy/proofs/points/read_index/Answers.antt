use Rattle.std.proofs.Common.{◌≡◌, ◌*◌, ◌/◌, length, ap, ◌∙◌, arith}
use Rattle.aff_fields.proofs.PointLaws.{length-points_from}
use Rattle.aff_bevvy.proofs.points.read_index.Goals as goal

pub returns-in-Ok-read_points-clause-count : goal.returns-in-Ok-read_points-clause-count
returns-in-Ok-read_points-clause-count g c =
    let long : length c.deref.result.now ≡ 12 * c.args.count = omega (arith, c.deref.ensures.len, c.deref_mut.ensures.len, c.in-Ok-zeros.ensures, c.read_at.auto.out) in
    let count : length c.deref.result.now / 12 ≡ c.args.count = omega (arith, long) in
    ap length c.in-Ok-read_points.ensures.points ∙ length-points_from (length c.deref.result.now / 12) c.deref.result.now ∙ count
