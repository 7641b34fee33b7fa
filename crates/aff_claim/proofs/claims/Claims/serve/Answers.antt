use Rattle.std.proofs.Common.{◌≡◌, subst, sym, ap, ◌∙◌, arith, length, Contains}
use Rattle.aff_claim.specs.declared.view.PassView.{PassView}
use Rattle.aff_claim.specs.Demands.{Has}
use Rattle.aff_claim.specs.Next.{IsLater, IsServed}
use Rattle.aff_claim.specs.Values.{Passing}
use Rattle.aff_claim.proofs.Later.{later_after}
use Rattle.aff_claim.proofs.Serving.{demands_later, served_word}
use Rattle.aff_claim.proofs.claims.Claims.serve.Goals as goal

pub served-requires : goal.served-requires
served-requires c =
    let number = c.requires.number in
    let sized = c.demands-bits.ensures.sized.0 in
    let count = ap (λ t. length t.ranking.priorities) (c.demands-bits.ensures.table ∙ c.requires.table) in
    omega arith

pub returns-in-Some-clause-later : goal.returns-in-Some-clause-later
returns-in-Some-clause-later c =
    let old = c.args.pass.now.view in
    let looked = subst (λ (v : PassView). IsLater old v) (sym c.demands-bits.ensures.view) (demands_later old c.args.number c.demands-bits.result) in
    later_after old c.demands-bits.new.pass.view c.claim_of.new.pass.view looked c.in-Some.ensures.later

pub returns-in-Some-clause-all_known : goal.returns-in-Some-clause-all_known
returns-in-Some-clause-all_known c all = c.in-Some.ensures.all_known (λ e l. subst (λ (v : PassView). Contains v.known e) (sym c.demands-bits.ensures.view) (all e l))

pub set_served-requires-clause-number : goal.set_served-requires-clause-number
set_served-requires-clause-number c =
    let number = c.requires.number in
    let sized = c.demands-bits.ensures.sized.0 in
    let count = ap (λ t. length t.ranking.priorities) (c.in_default.ensures.table ∙ (c.demands-bits.ensures.table ∙ c.requires.table)) in
    omega arith

pub returns-in_default-clause-later : goal.returns-in_default-clause-later
returns-in_default-clause-later c =
    let old = c.args.pass.now.view in
    let looked = subst (λ (v : PassView). IsLater old v) (sym c.demands-bits.ensures.view) (demands_later old c.args.number c.demands-bits.result) in
    subst (λ (p : Passing). IsLater old p.view) (sym c.set_served.ensures) (later_after old c.demands-bits.new.pass.view c.claim_of.new.pass.view looked c.in_default.ensures.later)

pub returns-in_default-clause-none : goal.returns-in_default-clause-none
returns-in_default-clause-none c =
    let old = c.args.pass.now.view in
    let now = c.claim_of.new.pass.view in
    let view = c.demands-bits.ensures.view in
    let bits = c.demands-bits.result in
    let none = c.in_default.ensures.none in
    subst (λ (p : Passing). (p.view.mine ≡ old.mine) × IsServed c.args.number old p.view) (sym c.set_served.ensures)
    (none.0 ∙ ap (λ v. v.mine) view, served_word c.args.number bits old now (none.1 ∙ ap (λ v. v.looked) view) c.demands-bits.ensures.before c.in_default.ensures.known)

pub returns-else-bits-served-clause-none : goal.returns-else-bits-served-clause-none
returns-else-bits-served-clause-none c =
    let old = c.args.pass.now.view in
    let view = c.demands-bits.ensures.view in
    let bits = c.demands-bits.result in
    let same : bits ≡ c.served.result = c.if-bits-served.false in (
      ap (λ v. v.mine) view,
      served_word c.args.number bits old c.demands-bits.new.pass.view (ap (λ v. v.looked) view) c.demands-bits.ensures.before (λ i h. c.served.ensures i (subst (λ x. Has x i) same h)),
    )
