use Rattle.std.proofs.Common.{refl}
use Rattle.std.specs.Fmt.{digits}
use Rattle.hex.specs.Hex.{encode_with}
use Rattle.aff_report.proofs.SmallReport.{is_reported}
use Rattle.aff_report.proofs.cases.a_small_report.Goals as goal

pub returns-clause-text : goal.returns-clause-text
unfolding digits encode_with
returns-clause-text c = refl

pub returns-clause-told : goal.returns-clause-told
returns-clause-told c = is_reported
