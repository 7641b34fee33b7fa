use Rattle.std.proofs.Common.{◌≡◌, ◌++◌, map, take}
use Rattle.std.specs.String.{string_bytes}
use Rattle.aff_model.specs.Pieces.{published}
use Rattle.aff_spec.specs.Report.{publication_lines}
use Rattle.aff_report.proofs.history.lines.Given as goal

abbrev pub invariant-loop-number : goal.invariant-loop-number
invariant-loop-number g l = string_bytes l.text ≡ string_bytes l.initial.text ++ publication_lines 1 (map published (take l.number l.pieces))
