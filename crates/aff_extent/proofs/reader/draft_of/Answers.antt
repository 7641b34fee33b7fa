use Rattle.std.proofs.Common.{◌<◌, ◌≤◌, ◌+◌, ℕ, List, length, ap, subst, sym, arith, ◌∙◌}
use Rattle.std.specs.Prelude.{All}
use Rattle.aff_model.specs.Plan.{chunk_count}
use Rattle.aff_extent.proofs.Stored.{stored_below}
use Rattle.aff_extent.proofs.reader.draft_of.Goals as goal

pub sums_of_chosen-requires : goal.sums_of_chosen-requires
sums_of_chosen-requires c =
    let n : ℕ = chunk_count (length c.args.bytes.now) in
    let few : 0 + length c.deref.result.now ≤ chunk_count (length c.args.bytes.now) = omega (arith, c.deref.ensures.len, c.in_ok-cuts.ensures.count, ap length c.deref.ensures.value) in
    subst (All (λ x. x < n)) (sym (c.deref-2.ensures.value ∙ c.in_ok-stored.ensures)) (stored_below n 0 c.deref.result.now few)
