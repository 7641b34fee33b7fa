use Rattle.std.proofs.Common.{Err, ap, inl, inr, refl, subst, sym, ◌∙◌}
use Rattle.aff_model.specs.Plan.{IsPlan}
use Rattle.aff_plan.specs.Reading.{IsReading}
use Rattle.aff_plan.specs.Refused.{IsTextOf}
use Rattle.aff_plan.specs.Text.{numbered_lines}
use Rattle.aff_plan.proofs.Sound.{plan_keeps, plan_said, refused_stop}
use Rattle.aff_plan.proofs.Told.{not_refused, same_plan, taken_unless, told_unless}
use Rattle.aff_plan.proofs.Written.{written_text}
use Rattle.aff_plan.proofs.read.read_plan.Goals as goal

pub returns-in-Some-clause-refused : goal.returns-in-Some-clause-refused
returns-in-Some-clause-refused c = λ other.
    refused_stop c.args.size c.args.block (numbered_lines c.args.text.now) c.read.new.self.numbers.items c.read.new.self.extents.items c.in-Some.error
    (subst (IsReading (numbered_lines c.args.text.now) c.read.new.self.numbers.items c.read.new.self.extents.items) c.in-Some.is c.in_ok-stop.ensures)
    (plan_keeps c.args.size c.args.block c.read.new.self.extents.items c.in-Ok.ensures.plan.0)

pub returns-in-Some-clause-taken : goal.returns-in-Some-clause-taken
returns-in-Some-clause-taken c = λ es is. (tt, inr (ap Err (taken_unless c.args.size c.args.block c.args.text.now c.in-Some.error es (returns-in-Some-clause-refused c) is)))

pub returns-in-Some-clause-written : goal.returns-in-Some-clause-written
returns-in-Some-clause-written c = λ es plan is. returns-in-Some-clause-taken c es (written_text c.args.size c.args.block c.args.text.now es c.ranges.size.fits plan is)

pub returns-in-Some-clause-told : goal.returns-in-Some-clause-told
returns-in-Some-clause-told c = λ e is. elim (told_unless c.args.size c.args.block c.args.text.now c.in-Some.error e (returns-in-Some-clause-refused c) is) [
  | inl same ↦ inl (ap Err same)
  | inr memory ↦ inr (ap Err memory)
]

pub returns-in-Ok-clause-plan : goal.returns-in-Ok-clause-plan
returns-in-Ok-clause-plan c =
    let kept = c.read.new.self.extents.items in
    let reading = subst (IsReading (numbered_lines c.args.text.now) c.read.new.self.numbers.items kept) c.in-None.is c.in_ok-stop.ensures in
    let plan = c.in-Ok.ensures.plan in
    let text : IsTextOf c.args.size c.args.block c.args.text.now kept =
    record { lines = plan_said c.args.size c.args.block (numbered_lines c.args.text.now) c.read.new.self.numbers.items kept reading plan.0; plan = plan.0 } in
    (subst (IsTextOf c.args.size c.args.block c.args.text.now) (sym plan.1) text, plan.2, plan.3)

pub returns-in-Ok-clause-taken : goal.returns-in-Ok-clause-taken
returns-in-Ok-clause-taken c = λ es is.
    (same_plan c.args.size c.args.block c.args.text.now c.in-Ok.plan.extents es (returns-in-Ok-clause-plan c).0 is, inl refl)

pub returns-in-Ok-clause-written : goal.returns-in-Ok-clause-written
returns-in-Ok-clause-written c = λ es plan is. returns-in-Ok-clause-taken c es (written_text c.args.size c.args.block c.args.text.now es c.ranges.size.fits plan is)

pub returns-in-Ok-clause-told : goal.returns-in-Ok-clause-told
returns-in-Ok-clause-told c = λ e is. absurd (not_refused c.args.size c.args.block c.args.text.now c.in-Ok.plan.extents e (returns-in-Ok-clause-plan c).0 is)

pub returns-clause-refused : goal.returns-clause-refused
returns-clause-refused c = λ other.
    c.refusal.ensures.refused c.args.size c.args.block (numbered_lines c.args.text.now) c.read.new.self.extents.items
    (subst (λ v. IsReading (numbered_lines c.args.text.now) v c.read.new.self.extents.items c.in_ok-stop.stop) (sym c.deref.ensures.value) c.in_ok-stop.ensures)
    (c.in-Err.ensures.fault (λ memory. other (c.refusal.ensures.memory memory)))

pub returns-clause-taken : goal.returns-clause-taken
returns-clause-taken c = λ es is. (tt, inr (ap Err (taken_unless c.args.size c.args.block c.args.text.now c.refusal.result es (returns-clause-refused c) is)))

pub returns-clause-written : goal.returns-clause-written
returns-clause-written c = λ es plan is. returns-clause-taken c es (written_text c.args.size c.args.block c.args.text.now es c.ranges.size.fits plan is)

pub returns-clause-told : goal.returns-clause-told
returns-clause-told c = λ e is. elim (told_unless c.args.size c.args.block c.args.text.now c.refusal.result e (returns-clause-refused c) is) [
  | inl same ↦ inl (ap Err same)
  | inr memory ↦ inr (ap Err memory)
]
