use Rattle.std.proofs.Common.{◌≡◌, drop}
use Rattle.aff_bevvy.specs.Segments.{listed_length}
use Rattle.aff_bevvy.proofs.listed.length_by_scan.Given as goal

abbrev pub invariant-loop-segment : goal.invariant-loop-segment
invariant-loop-segment l = listed_length l.segments l.name ≡ listed_length (drop l.segment-index l.segments) l.name
