use Rattle.std.proofs.Common.{◌≡◌, ◌≤◌, ap, arith, inl, inr, slice_index, subst, sym, ◌∙◌}
use Rattle.aff_model.specs.declared.plan.PlanFault.TheVariants as fault
use Rattle.aff_model.specs.Faults.{IsFirstFault, IsOwnFault}
use Rattle.aff_plan.specs.declared.error.PlanError.TheVariants.{Sector, TooLong, TooMany, PastEnd, Priority, Total}
use Rattle.aff_plan.specs.Reading.{IsReading}
use Rattle.aff_plan.specs.Refused.{IsOverlapRefusal}
use Rattle.aff_plan.proofs.Sound.{first_too_many, overlap_keeps, refused_overlap, refused_own, refused_stop}
use Rattle.aff_plan.proofs.read.refusal.Goals as goal

pub returns-in-Sector-clause-refused : goal.returns-in-Sector-clause-refused
returns-in-Sector-clause-refused c = λ size block lines kept reading first.
    let own : IsOwnFault size block kept (fault.Sector c.in-Sector.extent) = subst (IsFirstFault size block kept) c.in-Sector.is first in
    refused_own size block lines c.args.numbers.now kept c.args.stop (fault.Sector c.in-Sector.extent) (Sector c.number_of.result) reading own
    (ap Sector (c.number_of.ensures ∙ ap (slice_index c.args.numbers.now) own.breaks.0)) (λ n es line wrong. wrong)

pub returns-in-TooLong-clause-refused : goal.returns-in-TooLong-clause-refused
returns-in-TooLong-clause-refused c = λ size block lines kept reading first.
    let own : IsOwnFault size block kept (fault.TooLong c.in-TooLong.extent) = subst (IsFirstFault size block kept) c.in-TooLong.is first in
    refused_own size block lines c.args.numbers.now kept c.args.stop (fault.TooLong c.in-TooLong.extent) (TooLong c.number_of-in-TooLong.result) reading own
    (ap TooLong (c.number_of-in-TooLong.ensures ∙ ap (slice_index c.args.numbers.now) own.breaks.0)) (λ n es line wrong. wrong)

pub returns-in-PastEnd-clause-refused : goal.returns-in-PastEnd-clause-refused
returns-in-PastEnd-clause-refused c = λ size block lines kept reading first.
    let own : IsOwnFault size block kept (fault.PastEnd c.in-PastEnd.extent) = subst (IsFirstFault size block kept) c.in-PastEnd.is first in
    refused_own size block lines c.args.numbers.now kept c.args.stop (fault.PastEnd c.in-PastEnd.extent) (PastEnd c.number_of-in-PastEnd.result) reading own
    (ap PastEnd (c.number_of-in-PastEnd.ensures ∙ ap (slice_index c.args.numbers.now) own.breaks.0)) (λ n es line wrong. wrong)

pub returns-in-Priority-clause-refused : goal.returns-in-Priority-clause-refused
returns-in-Priority-clause-refused c = λ size block lines kept reading first.
    let own : IsOwnFault size block kept (fault.Priority c.in-Priority.extent) = subst (IsFirstFault size block kept) c.in-Priority.is first in
    refused_own size block lines c.args.numbers.now kept c.args.stop (fault.Priority c.in-Priority.extent) (Priority c.number_of-in-Priority.result) reading own
    (ap Priority (c.number_of-in-Priority.ensures ∙ ap (slice_index c.args.numbers.now) own.breaks.0)) (λ n es line wrong. wrong)

pub returns-in-Total-clause-refused : goal.returns-in-Total-clause-refused
returns-in-Total-clause-refused c = λ size block lines kept reading first.
    let own : IsOwnFault size block kept (fault.Total c.in-Total.extent) = subst (IsFirstFault size block kept) c.in-Total.is first in
    refused_own size block lines c.args.numbers.now kept c.args.stop (fault.Total c.in-Total.extent) (Total c.number_of-in-Total.result) reading own
    (ap Total (c.number_of-in-Total.ensures ∙ ap (slice_index c.args.numbers.now) own.breaks.0)) (λ n es line wrong. wrong)

pub returns-in-TooMany-clause-refused : goal.returns-in-TooMany-clause-refused
returns-in-TooMany-clause-refused c = λ size block lines kept reading first.
    let own : IsOwnFault size block kept fault.TooMany = subst (IsFirstFault size block kept) c.in-TooMany.is first in
    refused_own size block lines c.args.numbers.now kept c.args.stop fault.TooMany (TooMany c.number_of-in-TooMany.result) reading own
    (ap TooMany (c.number_of-in-TooMany.ensures ∙ ap (slice_index c.args.numbers.now) (sym (first_too_many size block kept own)))) (λ n es line wrong. wrong)

pub returns-in-Some-clause-refused : goal.returns-in-Some-clause-refused
returns-in-Some-clause-refused c = λ size block lines kept reading first.
    refused_stop size block lines c.args.numbers.now kept c.in-Some.error (subst (IsReading lines c.args.numbers.now kept) c.in-Some.is reading)
    (overlap_keeps size block kept c.in-Overlap.later c.in-Overlap.earlier (subst (IsFirstFault size block kept) c.in-Overlap.is first))

pub returns-in-None-clause-refused : goal.returns-in-None-clause-refused
returns-in-None-clause-refused c = λ size block lines kept reading first.
    let numbers = c.args.numbers.now in
    let overlap = refused_overlap size block lines numbers kept c.in-Overlap.later c.in-Overlap.earlier
    (subst (IsReading lines numbers kept) c.in-None.is reading) (subst (IsFirstFault size block kept) c.in-Overlap.is first) in
    subst (λ n. IsOverlapRefusal size block lines n c.number_of-in-None-2.result) (sym c.number_of-in-None.ensures)
    (subst (λ m. IsOverlapRefusal size block lines (slice_index numbers c.in-Overlap.later) m) (sym c.number_of-in-None-2.ensures) overlap)
