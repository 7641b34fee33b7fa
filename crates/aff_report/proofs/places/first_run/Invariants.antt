use Rattle.std.proofs.Common.{◌-◌, ◌<◌, get_or}
use Rattle.aff_model.specs.declared.publication.Place.TheVariants.{Zero}
use Rattle.aff_spec.specs.Report.{place_runs, with_place}
use Rattle.aff_report.specs.Runs.{run_of}
use Rattle.aff_report.proofs.Joins.{IsOpen}
use Rattle.aff_report.proofs.places.first_run.Given as goal

abbrev pub invariant-loop-count : goal.invariant-loop-count
invariant-loop-count l = record {
  some : 0 < l.count;
  is_open : IsOpen run_of with_place place_runs l.places l.first (get_or l.places (l.count - 1) Zero) l.count;
}
