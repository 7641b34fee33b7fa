use Rattle.std.proofs.Common.{refl, slice_index}
use Rattle.sha2.specs.Sha256.{round_constants, schedule}
use Rattle.sha2.proofs.Schedule256.{rounds_next}
use Rattle.aff_lanes.proofs.sha256_hasher.step.Goals as goal

pub returns : goal.returns
returns c = λ b h has at.
    let t = c.args.t in
    rw (c.round.ensures (slice_index round_constants t) (slice_index (schedule b 48) t) (has t c.requires.t), rounds_next h (schedule b 48) t, ← at) refl
