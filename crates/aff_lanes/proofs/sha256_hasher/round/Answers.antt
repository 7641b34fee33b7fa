use Rattle.std.proofs.Common.{refl, slice_index}
use Rattle.sha2.specs.Sha256.{big_sigma1, ch}
use Rattle.aff_lanes.proofs.Sums.{sum_first}
use Rattle.aff_lanes.proofs.sha256_hasher.round.Goals as goal

pub returns : goal.returns
returns c = λ k w sum.
    let v = c.args.v in
    rw (
      c.big_sigma1.ensures,
      c.ch.ensures,
      c.big_sigma0.ensures,
      c.maj.ensures,
      sum,
      sum_first (slice_index v 7) w k (big_sigma1 (slice_index v 4)) (ch (slice_index v 4) (slice_index v 5) (slice_index v 6)),
    ) refl
