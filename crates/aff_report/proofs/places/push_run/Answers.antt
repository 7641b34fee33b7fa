use Rattle.std.proofs.Common.{◌++◌, ap, ◌∙◌}
use Rattle.std.specs.String.{string_bytes}
use Rattle.aff_spec.specs.Report.{place_run_text, place_runs, with_place}
use Rattle.aff_report.specs.Runs.{next_place, place_run, run_of}
use Rattle.aff_report.proofs.Cuts.{places_joined}
use Rattle.aff_report.proofs.Joins.{text-next}
use Rattle.aff_report.proofs.places.push_run.Goals as goal

pub returns-clause-text : goal.returns-clause-text
returns-clause-text c =
    text-next next_place run_of with_place place_runs places_joined place_run_text c.args.places.now c.first_run-run.result.count (place_run c.first_run-run.result) (string_bytes c.args.text.now) (string_bytes c.write.new.self) c.first_run-run.ensures.run
    (c.in_ok-write.ensures.bytes ∙ ap (λ v. string_bytes c.args.text.now ++ (place_run_text (place_run c.first_run-run.result) ++ v)) c.comma_if-comma.ensures)
