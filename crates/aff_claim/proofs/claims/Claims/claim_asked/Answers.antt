use Rattle.std.proofs.Common.{◌≡◌, ap, ◌∙◌, arith, length}
use Rattle.aff_claim.specs.Words.{demand_count}
use Rattle.aff_claim.proofs.Later.{later_after}
use Rattle.aff_claim.proofs.Serving.{served_more}
use Rattle.aff_claim.proofs.claims.Claims.claim_asked.Goals as goal

pub returns-in-Some-clause-later : goal.returns-in-Some-clause-later
returns-in-Some-clause-later c = later_after c.args.pass.now.view c.loop-number.pass.view c.serve.new.pass.view c.loop-number.invariant.1 c.in-Some.ensures.later

pub returns-in-Some-clause-all_known : goal.returns-in-Some-clause-all_known
returns-in-Some-clause-all_known c all = c.in-Some.ensures.all_known (λ e l. c.loop-number.invariant.1.known e (all e l))

pub loop-number-preserved : goal.loop-number-preserved
loop-number-preserved c =
    let i = c.loop-number.invariant in
    let none = c.in_default.ensures.none in (
      c.in_default.ensures.table ∙ i.0,
      later_after c.args.pass.now.view c.loop-number.pass.view c.serve.new.pass.view i.1 c.in_default.ensures.later,
      none.0 ∙ i.2,
      served_more c.loop-number.number c.loop-number.pass.view c.serve.new.pass.view none.1 c.in_default.ensures.later.known i.3,
    )

pub returns-clause-none : goal.returns-clause-none
returns-clause-none c =
    let i = c.loop-number.invariant in
    let end = c.loop-number-test.false in
    let len : c.len.result ≡ c.args.self.now.table.extents = c.len.ensures.priorities ∙ (ap (λ r. length r.priorities) c.deref.ensures ∙ ap (λ t. t.table.extents) c.self.view_is) in
    let count : c.demand_count-number-end.result ≡ demand_count c.args.self.now.table.extents = c.demand_count-number-end.ensures ∙ ap demand_count len in (
      i.2,
      record {
        all = λ d l. i.3.0 d (omega arith);
        served = λ e l asked. i.3.1 e (omega arith) asked;
      },
    )
