use Rattle.std.proofs.Common.{◌≡◌, ◌+◌, ◌≤◌, ap, ◌∙◌, arith}
use Rattle.aff_claim.specs.declared.view.BookView.{BookView}
use Rattle.aff_run.proofs.Lives.{fresh_made}
use Rattle.aff_run.proofs.making.session_of.Goals as goal

pub returns-clause-seat : goal.returns-clause-seat
returns-clause-seat g c = (c.register.ensures.table, ap (λ (b : BookView). b.out) c.in_ok-pass.ensures.made)

pub returns-clause-made : goal.returns-clause-made
returns-clause-made g c = omega (arith, ap (λ (b : BookView). b.made) c.in_ok-pass.ensures.made)

pub returns-clause-session : goal.returns-clause-session
returns-clause-session g c = fresh_made c.new.result c.args.plan.now c.args.claims.now _ _ c.args.viewer _ _ c.new.ensures c.in_ok-pass.ensures.pass.0
