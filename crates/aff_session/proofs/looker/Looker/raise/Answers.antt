use Rattle.std.proofs.Common.{ℕ, ap, sym, subst, ◌∙◌, List, Contains}
use Rattle.aff_model.specs.declared.extent.Extent.{Extent}
use Rattle.aff_analyst.specs.Raised.{HasRaised, Shares}
use Rattle.aff_analyst.specs.Values.{Analysis, MayHaveGrown}
use Rattle.aff_session.specs.Looking.{Looking}
use Rattle.aff_session.proofs.Demands.{all_raised, no_less}
use Rattle.aff_session.proofs.Looks.{grown_self}
use Rattle.aff_session.proofs.looker.Looker.raise.Goals as goal

pub returns-clause-looked : goal.returns-clause-looked
returns-clause-looked g c =
    let same = c.raise.ensures.same in
    let inside = c.self.inside in
    let view = c.self.view_is in
    let raised = no_less (Shares inside.analyst.plan.extents c.args.at c.args.len) inside.pass.view c.raise.new.pass.view c.raise.ensures.raised in
    record {
      plan = ap (λ (a : Analysis _ _). a.plan) same ∙ ap (λ (l : Looking _ _). l.plan) view;
      viewer = subst (MayHaveGrown c.args.self.now.viewer) (sym (ap (λ (a : Analysis _ _). a.viewer) same ∙ ap (λ (l : Looking _ _). l.viewer) view)) (grown_self c.args.self.now.viewer);
      claims = c.raise.ensures.claims ∙ ap (λ (l : Looking _ _). l.claims) view;
      raised = λ e has. raised e (subst (λ (l : Looking _ _). Contains l.raised e) (sym view) has);
    }

pub returns-clause-asked : goal.returns-clause-asked
returns-clause-asked g c e shares =
    let inside = c.self.inside in
    let extents = ap (λ (l : Looking _ _). l.plan.extents) c.self.view_is in
    all_raised (Shares inside.analyst.plan.extents c.args.at c.args.len) inside.pass.view c.raise.new.pass.view c.raise.ensures.raised e
    (subst (λ (es : List Extent). Shares es c.args.at c.args.len e) (sym extents) shares)
