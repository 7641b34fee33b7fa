use Rattle.std.proofs.Common.{◌≡◌, ◌+◌, ◌*◌, ◌/◌, ◌<◌, ◌≤◌, ◌^◌, length, vec_capacity, sym, ap, subst, ◌∙◌, rules, arith}
use Rattle.std.specs.Prelude.{All}
use Rattle.aff_model.specs.declared.extent.Extent.{Extent}
use Rattle.aff_model.specs.Plan.{IsPlan, Planned}
use Rattle.aff_model.proofs.Sectors.{sector_plan}
use Rattle.aff_analyst.specs.Values.{Analysis}
use Rattle.aff_examine.proofs.reader.PieceReader.new.Goals as goal

pub invariant_of-result : goal.invariant_of-result
invariant_of-result g c =
    let plan = c.args.plan.now in
    let bytes = c.in-Ok-zeros.bytes.items in
    let bad = c.in-Ok-with_capacity.bad in
    let plan_is = ap (λ (a : Analysis _ _). a.plan) c.in_ok-open.ensures in
    let planned : IsPlan plan.size plan.block plan.extents = c.extents.ensures.plan in
    let items : c.in-Ok.extents.items ≡ plan.extents = search rules in
    let same : c.deref.result.now ≡ plan.extents = c.deref.ensures.value ∙ items in
    let each = (sector_plan plan.size plan.block plan.extents planned).each in
    let longest : All (λ (e : Extent). e.len ≤ c.longest_of-longest.result) plan.extents = subst (All (λ (e : Extent). e.len ≤ c.longest_of-longest.result)) same c.longest_of-longest.ensures.longest in
    let count : length bytes ≡ c.longest_of-longest.result + 1048576 = search rules in
    let capacity : c.longest_of-longest.result / 512 ≤ vec_capacity bad = omega (arith, c.in-Ok-with_capacity.ensures.capacity) in
    let rooms : All (λ (e : Extent). (e.len + 1048576 ≤ length bytes) × (e.len ≤ 512 * vec_capacity bad)) plan.extents = λ k d low. (omega (arith, longest k d low, count), omega (arith, longest k d low, capacity, (each k d low).len_whole)) in
    subst (λ (p : Planned). (c.in-Ok.extents.items ≡ p.extents) × IsPlan p.size p.block p.extents × (p.size < 2 ^ 64) × All (λ (e : Extent). (e.len + 1048576 ≤ length bytes) × (e.len ≤ 512 * vec_capacity bad)) c.in-Ok.extents.items) (sym plan_is)
    (items, planned, omega (arith, c.size-size.ensures, c.size-size.type_inv), subst (All (λ (e : Extent). (e.len + 1048576 ≤ length bytes) × (e.len ≤ 512 * vec_capacity bad))) (sym items) rooms)
