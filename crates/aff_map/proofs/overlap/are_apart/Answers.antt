use Rattle.std.proofs.Common.{rules, subst, sym}
use Rattle.std.specs.List.Sorted.{IsNonDecreasingBy, IsPermutation}
use Rattle.std.proofs.lemmas.List.Sorted.{All-permutation, IsNonDecreasingBy-from_sort_by_key, IsPermutation-sym}
use Rattle.aff_fields.specs.declared.entry.Entry.{Entry}
use Rattle.aff_map.specs.Mapped.{HasBytes}
use Rattle.aff_map.proofs.Overlaps.{apart-permutation}
use Rattle.aff_map.proofs.overlap.are_apart.Goals as goal

pub rises-requires : goal.rises-requires
rises-requires c =
    let moved : IsPermutation c.args.entries.now c.deref.result.now = search rules in
    let up = IsNonDecreasingBy-from_sort_by_key (λ (e : Entry). e.at) c.sort_unstable_by_key.new.self.items c.sort_unstable_by_key.ensures.sorted (λ a r q k. search rules) in
    record {
      bytes = All-permutation HasBytes _ _ moved c.requires;
      sorted = subst (IsNonDecreasingBy (λ (e : Entry). e.at)) (sym c.deref.ensures.value) up;
    }

pub returns : goal.returns
returns c =
    let moved : IsPermutation c.args.entries.now c.deref.result.now = search rules in
    let back = IsPermutation-sym _ _ moved in
    (λ t. apart-permutation _ _ back (c.rises.ensures.0 t), λ a. c.rises.ensures.1 (apart-permutation _ _ moved a))
