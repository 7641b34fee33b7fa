use Rattle.std.proofs.Common.{ℕ, ◌*◌, ◌/◌, ◌-◌, length, ap}
use Rattle.std.proofs.lemmas.List.{take_rest}
use Rattle.aff_lanes.proofs.Padding.{end_of_rest}
use Rattle.aff_lanes.proofs.ends.end_of.Goals as goal

pub returns : goal.returns
returns c =
    let m = c.args.message.now in
    end_of_rest m _ _ _ c.args.bits.now _ _ (take_rest m (length m / 64 * 64)) c.marked-end.ensures c.copy_from_slice.ensures.after c.told-bits
    (ap (λ (k : ℕ). 64 * k - 8) c.end_count.ensures)
