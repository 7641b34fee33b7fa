use Rattle.std.proofs.Common.{ℕ, ◌*◌, ◌/◌, length, arith}
use Rattle.std.proofs.lemmas.List.{take_rest}
use Rattle.aff_hash.proofs.Entries.{three_parts}
use Rattle.aff_hash.proofs.chosen.chosen_in_groups.Goals as goal

pub returns : goal.returns
returns c =
    let bytes = c.args.bytes.now in
    let chosen = c.args.chosen.now in
    let eights : ℕ = length chosen / 8 * 8 in
    let fours : ℕ = length chosen / 4 * 4 in
    rw (c.in_ok-push_others.ensures, c.in_ok-push_fours.ensures, c.in_ok-push_eights.ensures, c.in_ok-sums.ensures.items, take_rest chosen fours)
    (three_parts bytes chosen eights fours (omega arith))
