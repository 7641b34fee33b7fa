use Rattle.std.proofs.Common.{◌≡◌, List, [], map, ap, ◌∙◌, subst}
use Rattle.std.specs.Arc.{arc_value}
use Rattle.aff_model.specs.declared.extent.Extent.{Extent}
use Rattle.aff_analyst.specs.Raised.{HasRaised, Shares}
use Rattle.aff_analyst.specs.Values.{Analysis}
use Rattle.aff_analyst.proofs.Raising.{raised_all}
use Rattle.aff_analyst.proofs.analyst.Analyst.raise.Goals as goal

pub returns-clause-raised : goal.returns-clause-raised
returns-clause-raised g c =
    let pieces = map arc_value c.deref-2.result.now in
    let empty : pieces ≡ [] = ap (map arc_value) (c.deref-2.ensures.value ∙ c.new-none.ensures.items) in
    let old = c.args.pass.now.view in
    let now = c.raise_missed.new.pass.view in
    subst (λ (es : List Extent). HasRaised (Shares es c.args.at c.args.len) old now) (ap (λ (a : Analysis _ _). a.plan.extents) c.self.view_is)
    (raised_all c.self.inside.plan.extents pieces c.args.at c.args.len old now empty c.raise_missed.ensures.raised)
