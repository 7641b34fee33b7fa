use Rattle.std.proofs.Common.{◌-◌, ◌<◌, get_or}
use Rattle.aff_spec.specs.Report.{sector_runs, with_sector}
use Rattle.aff_report.proofs.Cuts.{sectors_from}
use Rattle.aff_report.proofs.Joins.{IsOpen}
use Rattle.aff_report.proofs.sectors.first_run.Given as goal

abbrev pub invariant-loop-count : goal.invariant-loop-count
invariant-loop-count l = record {
  some : 0 < l.count;
  is_open : IsOpen sectors_from with_sector sector_runs l.sectors l.first (get_or l.sectors (l.count - 1) 0) l.count;
}
