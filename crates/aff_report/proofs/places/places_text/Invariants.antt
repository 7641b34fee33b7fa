use Rattle.std.proofs.Common.{◌≡◌, ◌-◌, ◌≤◌, ◌++◌, drop, length}
use Rattle.std.specs.String.{string_bytes}
use Rattle.aff_spec.specs.Report.{places_text}
use Rattle.aff_report.proofs.places.places_text.Given as goal

abbrev pub invariant-loop-done : goal.invariant-loop-done
invariant-loop-done l = record {
  inside : l.done ≤ length l.places;
  text : string_bytes l.text ++ places_text (drop l.done l.places) ≡ places_text l.places;
}

abbrev pub decreases-loop-done : goal.decreases-loop-done
decreases-loop-done l = length l.places - l.done
