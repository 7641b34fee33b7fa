use Rattle.std.proofs.Common.{◌≡◌, ◌+◌, ◌≤◌, ◌<◌, ◌∷◌, [], ◌++◌, length, sym, ap, subst, ◌∙◌, arith}
use Rattle.std.specs.Prelude.{All}
use Rattle.std.proofs.lemmas.List.{length_push}
use Rattle.aff_claim.specs.declared.view.BookView.{BookView}
use Rattle.aff_claim.specs.declared.view.PassView.{PassView}
use Rattle.aff_run.specs.declared.crew.Kit.{Kit}
use Rattle.aff_run.proofs.Crews.{kits_push}
use Rattle.aff_run.proofs.making.kits_of.Goals as goal

pub loop-order-preserved : goal.loop-order-preserved
loop-order-preserved c =
    let i = c.loop-order.invariant in
    let r = c.in_ok-pass.ensures in
    let p = c.push_reserved.ensures in
    let claims = c.args.claims.now in
    let n = length c.loop-order.yielded in
    let longer = length_push c.loop-order.yielded c.in-Some.order in
    let number = ap (λ (v : PassView). v.number) r.pass.1 ∙ i.2 in
    let kit : Kit = record { pass = c.in_ok-pass.pass; order = c.in-Some.order; reader = c.in_ok-reader.reader } in
    let all = kits_push (λ (k : Kit). k.pass.claims) (λ (k : Kit). k.pass.view.number) claims n c.loop-order.kits.items kit i.5 r.pass.0 number in (
      c.register.ensures.table ∙ i.0,
      ap (λ (b : BookView). b.out) r.made ∙ i.1,
      omega (arith, longer, ap (λ (b : BookView). b.made) r.made, i.2),
      omega (arith, longer, p.len, i.3),
      omega (arith, longer, p.capacity, c.in-Some.ensures.steps.1, i.4),
      subst (λ m. All (λ (k : Kit). (k.pass.claims ≡ claims) × (k.pass.view.number < m)) c.push_reserved.new.self.items) (sym longer)
          (subst (All (λ (k : Kit). (k.pass.claims ≡ claims) × (k.pass.view.number < n + 1))) (sym p.items) all),
    )
