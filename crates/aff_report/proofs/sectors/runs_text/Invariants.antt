use Rattle.std.proofs.Common.{◌≡◌, ◌-◌, ◌≤◌, ◌++◌, drop, length}
use Rattle.std.specs.String.{string_bytes}
use Rattle.aff_report.specs.Runs.{sectors_text}
use Rattle.aff_report.proofs.sectors.runs_text.Given as goal

abbrev pub invariant-loop-done : goal.invariant-loop-done
invariant-loop-done l = record {
  inside : l.done ≤ length l.sectors;
  text : string_bytes l.text ++ sectors_text (drop l.done l.sectors) ≡ sectors_text l.sectors;
}

abbrev pub decreases-loop-done : goal.decreases-loop-done
decreases-loop-done l = length l.sectors - l.done
