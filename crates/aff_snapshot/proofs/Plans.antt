-- The numbers of a plan say the plan.
use Rattle.std.proofs.Common.{◌≡◌, List, [], ◌∷◌, refl, ap, sym, ◌∙◌}
use Rattle.aff_model.specs.declared.extent.Extent.{Extent}
use Rattle.aff_model.specs.Plan.{Planned}
use Rattle.aff_snapshot.specs.Lists.{ListName, numbers_of}
use Rattle.aff_snapshot.specs.Numbers.{extent_numbers, extents_in, plan_numbers, plan_in}

extents_back : (extents : List Extent) → extents_in (extent_numbers extents) ≡ extents
extents_back [] = refl
extents_back (e ∷ extents) = ap (λ es. e ∷ es) (extents_back extents)

pub plan_back : (plan : Planned) → plan_in (plan_numbers plan) ≡ plan
plan_back plan = ap (λ (es : List Extent). record { extents = es; size = plan.size; block = plan.block }) (extents_back plan.extents)

-- lists with the same numbers are one list
pub list_tells : (l m : ListName) → numbers_of l ≡ numbers_of m → l ≡ m
list_tells l m same =
    let plans : plan_numbers l.plan ≡ plan_numbers m.plan = cc same in
    let plan : l.plan ≡ m.plan = sym (plan_back l.plan) ∙ (ap plan_in plans ∙ plan_back m.plan) in
    let number : l.book.number ≡ m.book.number = cc same in
    let log : l.book.log_name ≡ m.book.log_name = cc same in
    let cells : l.book.cells_name ≡ m.book.cells_name = cc same in
    λ i. record { book = record { number = number i; log_name = log i; cells_name = cells i }; plan = plan i }
