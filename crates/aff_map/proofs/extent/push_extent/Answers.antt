use Rattle.std.proofs.Common.{◌≡◌, ◌+◌, ◌*◌, ◌<◌, min, refl, arith}
use Rattle.aff_model.specs.declared.publication.Place.TheVariants.{Zero}
use Rattle.aff_map.specs.Building.{extent_spot}
use Rattle.aff_map.proofs.Adding.{Adds-then}
use Rattle.aff_map.proofs.Sectors.{Adds-chunk}
use Rattle.aff_map.proofs.extent.push_extent.Goals as goal

pub loop-j-preserved : goal.loop-j-preserved
loop-j-preserved c =
    let inside : 32768 * c.loop-j.j < c.args.extent.len = omega arith in
    let from : c.args.extent.at + 512 * (64 * c.loop-j.j) ≡ c.args.extent.at + min (32768 * c.loop-j.j) c.args.extent.len = omega (arith, inside) in
    let to : c.args.extent.at + 512 * c.min-last.result ≡ c.args.extent.at + min (32768 * (c.loop-j.j + 1)) c.args.extent.len = omega (arith, inside, c.min-last.ensures) in
    Adds-then c.args.extent.at (c.args.extent.at + min (32768 * c.loop-j.j) c.args.extent.len) (c.args.extent.at + min (32768 * (c.loop-j.j + 1)) c.args.extent.len) (extent_spot c.args.extent c.args.bad.now c.args.places.now) _ _ _
    (omega arith) (omega arith) c.loop-j.invariant
    (Adds-chunk c.args.extent c.args.bad.now c.args.places.now Zero c.loop-j.j (64 * c.loop-j.j) c.min-last.result _ _ _ _ c.loop-j-test.true refl (omega arith) from to c.in_ok-push_chunk.ensures)
