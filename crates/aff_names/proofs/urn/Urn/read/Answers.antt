use Rattle.std.proofs.Common.{refl, subst}
use Rattle.std.specs.Prelude.{Ok, Err}
use Rattle.aff_names.specs.Refused.{IsNameFault}
use Rattle.aff_names.specs.Urn.{IsUrn}
use Rattle.aff_names.proofs.Faults.{memory_is_no_place, told_by_fault, told_by_urn, urn_has_no_fault}
use Rattle.aff_names.proofs.urn.Urn.read.Goals as goal

pub returns-in-Some-clause-taken : goal.returns-in-Some-clause-taken
returns-in-Some-clause-taken c =
    let fault = subst (λ t. IsNameFault t c.in-Some.fault) c.as_bytes.ensures.value c.in-Some.ensures in
    λ urn. absurd (urn_has_no_fault c.args.text.now c.in-Some.fault urn fault)

pub returns-in-Some-clause-bad_uuid : goal.returns-in-Some-clause-bad_uuid
returns-in-Some-clause-bad_uuid c =
    let fault = subst (λ t. IsNameFault t c.in-Some.fault) c.as_bytes.ensures.value c.in-Some.ensures in
    told_by_fault c.args.text.now (Err c.in-Some.fault) c.in-Some.fault refl fault

pub returns-in_err-text-clause-bad_uuid : goal.returns-in_err-text-clause-bad_uuid
returns-in_err-text-clause-bad_uuid c =
    let urn = subst IsUrn c.as_bytes.ensures.value c.in_default.ensures in
    told_by_urn c.args.text.now c.from_residual.result urn (memory_is_no_place c.from_residual.result c.from_residual.ensures.1)

pub returns-clause-bad_uuid : goal.returns-clause-bad_uuid
returns-clause-bad_uuid c =
    let urn = subst IsUrn c.as_bytes.ensures.value c.in_default.ensures in
    told_by_urn c.args.text.now (Ok _) urn (λ at e. cc)
