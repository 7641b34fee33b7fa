use Rattle.std.proofs.Common.{◌≡◌, map, take}
use Rattle.aff_report.specs.Examiners.{examiner_lines}
use Rattle.aff_report.proofs.examiners.lines.Given as goal

abbrev pub invariant-loop-number : goal.invariant-loop-number
invariant-loop-number l = l.text.items ≡ examiner_lines 1 (map (λ f. f.items) (take l.number l.findings))
