use Rattle.std.proofs.Common.{◌≡◌, true, arith}
use Rattle.aff_names.proofs.Faults.{scheme_from_test}
use Rattle.aff_names.proofs.Places.{urn_from_good}
use Rattle.aff_names.proofs.urn.fault.Goals as goal

pub returns-in_err-at : goal.returns-in_err-at
returns-in_err-at c =
    let passed : c.starts_with.result ≡ true = grind arith in
    let scheme = scheme_from_test c.args.bytes.now c.starts_with.result c.starts_with.ensures.value passed in
    rw c.from_residual.ensures (urn_from_good c.args.bytes.now scheme c.in_err-at.ensures)
