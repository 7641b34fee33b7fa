-- What holds of reports.
use Rattle.std.specs.Prelude.{◌≡◌}
use Rattle.aff_report.specs.Reported.{IsReported, Reported, reported_text}

-- A report's text determines the report: two with one text are one.
abbrev pub TextsDetermineReports : Type 0
TextsDetermineReports = (a b : Reported) → IsReported a → IsReported b → reported_text a ≡ reported_text b → a ≡ b
