use Rattle.std.proofs.Common.{◌≡◌, ◌∙◌, below_more, true, arith, rules}
use Rattle.aff_run.proofs.sweep.sweep.Goals as goal

pub loop-number-preserved : goal.loop-number-preserved
loop-number-preserved g c =
    let i = c.loop-number.invariant in
    let e = c.sweep_one.ensures in
    let done : c.sweep_one.result ≡ true = search rules in
    record {
      published = below_more _ _ (λ k below. e.stay k (i.published k below)) (e.published done);
      content = e.kept.holds ∙ i.content;
      block = e.kept.blocks ∙ i.block;
      size = e.kept.sized ∙ i.size;
      later = omega (arith, i.later, e.kept.later);
    }
