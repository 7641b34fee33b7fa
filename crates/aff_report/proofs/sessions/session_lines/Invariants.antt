use Rattle.std.proofs.Common.{◌≡◌, map, take}
use Rattle.std.specs.String.{string_bytes}
use Rattle.aff_report.specs.Sessions.{session_lines}
use Rattle.aff_report.proofs.sessions.session_lines.Given as goal

abbrev pub invariant-loop-number : goal.invariant-loop-number
invariant-loop-number l = string_bytes l.text ≡ session_lines 1 (map (λ s. s.items) (take l.number l.sessions))
