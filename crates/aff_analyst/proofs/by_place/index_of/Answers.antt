use Rattle.std.proofs.Common.{rules}
use Rattle.std.proofs.lemmas.List.Sorted.{IsNonDecreasingBy-from_sort_by_key}
use Rattle.aff_model.specs.Index.{start_of}
use Rattle.aff_analyst.proofs.by_place.index_of.Goals as goal

pub returns : goal.returns
returns c = record {
  numbers = rw (← c.in_ok-index.ensures) c.sort_unstable_by_key.ensures.permutation;
  sorted = IsNonDecreasingBy-from_sort_by_key (start_of c.args.extents.now) _ c.sort_unstable_by_key.ensures.sorted (λ a r q k. search rules);
}
