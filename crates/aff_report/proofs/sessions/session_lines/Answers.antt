use Rattle.std.proofs.Common.{◌+◌, ◌++◌, get_or, ap, ◌∙◌}
use Rattle.std.specs.List.{flat_map}
use Rattle.std.specs.String.{string_bytes}
use Rattle.aff_report.specs.Sessions.{answer_lines, session_line}
use Rattle.aff_report.proofs.SessionLines.{session_lines-next}
use Rattle.aff_report.proofs.sessions.session_lines.Goals as goal

pub loop-number-preserved : goal.loop-number-preserved
loop-number-preserved c =
    let k = c.loop-number.number in
    let s = c.index-sessions-number.result in
    c.in_ok-push_session.ensures
    ∙ ap (λ v. string_bytes c.loop-number.text ++ (session_line (k + 1) ++ flat_map answer_lines v)) (c.deref.ensures.value ∙ ap (λ v. v.items) c.index-sessions-number.is)
    ∙ ap (λ v. v ++ (session_line (k + 1) ++ flat_map answer_lines (get_or c.args.sessions.now k s).items)) c.loop-number.invariant
    ∙ session_lines-next (λ v. v.items) c.args.sessions.now k s c.loop-number-test.true
