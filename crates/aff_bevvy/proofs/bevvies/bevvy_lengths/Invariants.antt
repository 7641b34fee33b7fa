use Rattle.std.proofs.Common.{◌≡◌, ℕ, ◌<◌, Some, length, get_or}
use Rattle.aff_spec.specs.Names.{bevvy_name}
use Rattle.aff_bevvy.specs.Segments.{IsBevvy, listed_length}
use Rattle.aff_bevvy.proofs.bevvies.bevvy_lengths.Given as goal

abbrev pub invariant-loop-bevvy : goal.invariant-loop-bevvy
invariant-loop-bevvy l = record {
  bevvies : (b : ℕ) → b < l.bevvy → IsBevvy (listed_length l.segments) l.stream l.chunks b;
  all : length l.lens.items ≡ l.bevvy;
  each : (b : ℕ) → b < l.bevvy → listed_length l.segments (bevvy_name l.stream b) ≡ Some (get_or l.lens.items b 0);
}
