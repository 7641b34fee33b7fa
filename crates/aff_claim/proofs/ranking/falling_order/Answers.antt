use Rattle.std.proofs.Common.{rules, ◌-◌, sym, subst, length, slice_index}
use Rattle.std.specs.List.{range_with_len}
use Rattle.std.specs.List.Sorted.{IsPermutation}
use Rattle.std.proofs.lemmas.List.Sorted.{IsNonDecreasingBy-from_sort_by_key, IsPermutation-trans}
use Rattle.aff_claim.proofs.Urgency.{falls_by_key}
use Rattle.aff_claim.proofs.ranking.falling_order.Goals as goal

pub returns : goal.returns
returns c =
    let n = length c.args.extents.now in
    let priorities = c.args.priorities.now in
    let sorted = c.sort_by_key.new.self.items in
    let first : IsPermutation (range_with_len 0 n) c.sort_unstable_by_key.new.self.items = subst (λ xs. IsPermutation xs c.sort_unstable_by_key.new.self.items) c.in_ok-numbers.ensures c.sort_unstable_by_key.ensures.permutation in
    let all : IsPermutation (range_with_len 0 n) sorted = IsPermutation-trans (range_with_len 0 n) c.sort_unstable_by_key.new.self.items sorted first c.in_ok-sort_by_key.ensures.permutation in record {
      numbers = subst (λ k. IsPermutation (range_with_len 0 k) sorted) (sym c.requires.same) all;
      falls = falls_by_key priorities sorted c.type_inv.priorities (IsNonDecreasingBy-from_sort_by_key (λ e. 255 - slice_index priorities e) sorted c.in_ok-sort_by_key.ensures.sorted (λ a r q k. search rules));
    }
