use Rattle.aff_model.proofs.Faults.{each_from_fits, has_bytes}
use Rattle.aff_model.proofs.plan.index_of_plan.Goals as goal

pub returns-then-not-rises-clause-fault : goal.returns-then-not-rises-clause-fault
returns-then-not-rises-clause-fault c _ =
    let fits = c.in_ok-check_extents.ensures in
    record { each = each_from_fits _ _ _ fits.0; few = fits.1; total = fits.2; overlap = c.in_ok-later.ensures }

pub returns-clause-plan : goal.returns-clause-plan
returns-clause-plan c =
    let fits = c.in_ok-check_extents.ensures in
    let each = each_from_fits _ _ _ fits.0 in
    (record { is_block = c.requires; each = each; few = fits.1; total = fits.2; apart = c.rises.ensures.0 c.if-not-rises.false }, has_bytes _ _ _ c.ranges.size.fits each, c.in_ok-index.ensures)
