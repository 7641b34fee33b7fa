use Rattle.std.proofs.Common.{◌+◌, ◌++◌, ap, ◌∙◌}
use Rattle.std.specs.String.{string_bytes}
use Rattle.aff_spec.specs.Report.{sector_run_text, sector_runs, with_sector}
use Rattle.aff_report.specs.Runs.{sector_run}
use Rattle.aff_report.proofs.Cuts.{sectors_from, sectors_joined}
use Rattle.aff_report.proofs.Joins.{text-next}
use Rattle.aff_report.proofs.sectors.push_run.Goals as goal

pub returns-clause-text : goal.returns-clause-text
returns-clause-text c =
    text-next (λ s. s + 1) sectors_from with_sector sector_runs sectors_joined sector_run_text c.args.sectors.now c.first_run-run.result.count (sector_run c.first_run-run.result) (string_bytes c.args.text.now) (string_bytes c.write.new.self) c.first_run-run.ensures.run
    (c.in_ok-write.ensures.bytes ∙ ap (λ v. string_bytes c.args.text.now ++ (sector_run_text (sector_run c.first_run-run.result) ++ v)) c.comma_if-comma.ensures)
