use Rattle.aff_report.proofs.ToldReports.{one_text}
use Rattle.aff_report.proofs.laws.a_text_determines_its_report.Goals as goal

pub returns : goal.returns
returns c = one_text
