use Rattle.std.proofs.Common.{◌≡◌, ◌++◌, take}
use Rattle.std.specs.List.{flat_map}
use Rattle.std.specs.String.{string_bytes}
use Rattle.aff_report.specs.Sessions.{run_line}
use Rattle.aff_report.proofs.sessions.push_runs.Given as goal

abbrev pub invariant-loop-run : goal.invariant-loop-run
invariant-loop-run l = string_bytes l.text ≡ string_bytes l.initial.text ++ flat_map run_line (take l.run-index l.runs)
