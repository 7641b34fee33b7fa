use Rattle.std.proofs.Common.{◌≡◌, length, ◌∙◌, arith, refl}
use Rattle.aff_lanes.proofs.Groups.{put_four}
use Rattle.aff_lanes.proofs.sha256_hasher.put.Goals as goal

pub returns-clause-at : goal.returns-clause-at
returns-clause-at c = λ j low.
    let len : length c.add-y.result ≡ 4 = omega arith in
    put_four c.args.flat.now c.add-y.result c.args.t j c.told-flat len c.requires low ∙ c.add-y.ensures j low ∙ rw (c.splat.ensures j low) refl
