use Rattle.std.proofs.Common.{◌+◌, ◌++◌, get_or, ap, ◌∙◌}
use Rattle.aff_report.specs.Examiners.{examiner_line}
use Rattle.aff_report.proofs.ExaminerLines.{examiner_lines-next}
use Rattle.aff_report.proofs.examiners.lines.Goals as goal

pub loop-number-preserved : goal.loop-number-preserved
loop-number-preserved c =
    let k = c.loop-number.number in
    let f = c.index-findings-number.result in
    c.in_ok-push_line.ensures
    ∙ ap (λ v. c.loop-number.text.items ++ examiner_line (k + 1) v) (c.deref.ensures.value ∙ ap (λ v. v.items) c.index-findings-number.is)
    ∙ ap (λ v. v ++ examiner_line (k + 1) (get_or c.args.findings.now k f).items) c.loop-number.invariant
    ∙ examiner_lines-next (λ v. v.items) c.args.findings.now k f c.loop-number-test.true
