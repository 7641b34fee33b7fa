use Rattle.std.proofs.Common.{◌≤◌, take, get_or, subst, arith}
use Rattle.std.specs.Prelude.{All}
use Rattle.std.proofs.lemmas.List.{take_all}
use Rattle.std.proofs.lemmas.List.Elements.{All-more, All-weaker}
use Rattle.aff_model.specs.declared.extent.Extent.{Extent}
use Rattle.aff_model.specs.Index.{no_extent}
use Rattle.aff_examine.proofs.reader.longest_of.Goals as goal

pub loop-extent-preserved : goal.loop-extent-preserved
loop-extent-preserved c =
    let extents = c.args.extents.now in
    let number = c.loop-extent.extent-index in
    let now = c.max-longest.result in
    let inv = c.loop-extent.invariant in
    let here : (get_or extents number no_extent).len ≤ now = omega (arith, c.max-longest.ensures) in
    record {
      longest = All-more (λ (e : Extent). e.len ≤ now) extents number no_extent c.loop-extent-test.true (All-weaker (λ (e : Extent). e.len ≤ c.loop-extent.longest) (λ (e : Extent). e.len ≤ now) (λ e low. omega (arith, low, c.max-longest.ensures)) (take number extents) inv.longest) here;
      short = omega (arith, c.max-longest.ensures, inv.short, c.requires number no_extent c.loop-extent-test.true);
    }

pub returns-clause-longest : goal.returns-clause-longest
returns-clause-longest c = subst (All (λ (e : Extent). e.len ≤ c.loop-extent.longest)) (take_all c.loop-extent.extent-index c.args.extents.now c.loop-extent-test.false) c.loop-extent.invariant.longest
