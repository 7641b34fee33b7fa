use Rattle.std.proofs.Common.{◌≡◌, arith, length, sym, ap, ◌∙◌, subst}
use Rattle.std.specs.List.{range_with_len}
use Rattle.std.specs.List.Sorted.{IsPermutation}
use Rattle.std.proofs.lemmas.Grind.{common_steps}
use Rattle.std.proofs.lemmas.List.FromFn.{length-range_with_len}
use Rattle.std.proofs.lemmas.List.Sorted.{IsPermutation-refl}
use Rattle.aff_model.proofs.Index.{range_with_len-more}
use Rattle.aff_claim.proofs.tests.numbers.Goals as goal

pub loop-number-preserved : goal.loop-number-preserved
loop-number-preserved c = let more = range_with_len-more c.loop-number.number in grind (arith, common_steps)

pub returns : goal.returns
returns c =
    let items = c.loop-number.numbers.items in
    let n = c.loop-number.number in
    let is : items ≡ range_with_len 0 n = c.loop-number.invariant in
    let count : length items ≡ n = ap length is ∙ length-range_with_len 0 n in
    subst (λ xs. IsPermutation xs items) (is ∙ ap (range_with_len 0) (sym count)) (IsPermutation-refl items)
