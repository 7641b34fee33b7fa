use Rattle.std.proofs.Common.{◌≡◌, ◌++◌, ◌∙◌, ap, length, map, subst}
use Rattle.std.specs.Prelude.{IfOk}
use Rattle.std.specs.String.{string_bytes}
use Rattle.aff_model.specs.Pieces.{published}
use Rattle.aff_spec.specs.Report.{report_text}
use Rattle.aff_finish.specs.HashLines.{hash_lines}
use Rattle.aff_report.specs.Examiners.{examiner_lines}
use Rattle.aff_report.specs.Sessions.{session_lines}
use Rattle.aff_top.proofs.acquire.report_of.Goals as goal

pub returns-clause-text : goal.returns-clause-text
returns-clause-text g c =
    let plan = c.args.plan.now in
    let a = c.args.acquired.now in
    let first : string_bytes c.in_ok-text.text ≡ report_text c.args.uuid.now plan.size (length plan.extents) (map published a.pieces.items) =
    c.in_ok-text.ensures ∙ (λ i. report_text (c.text.ensures.text i) (c.size.ensures i) (length (c.extents.ensures.extents i)) (map published (c.deref.ensures.value i))) in
    let second : c.as_str.result.now ≡ session_lines 1 (map (λ s. s.items) a.sessions.items) =
    c.as_str.ensures.value ∙ c.in_ok-sessions.ensures ∙ ap (λ v. session_lines 1 (map (λ s. s.items) v)) c.deref-2.ensures.value in
    let third : c.deref-4.result.now ≡ examiner_lines 1 (map (λ f. f.items) a.findings.items) = c.deref-4.ensures.value ∙ c.in_ok-examiners.ensures ∙ ap (λ v. examiner_lines 1 (map (λ f. f.items) v)) c.deref-3.ensures.value in
    let fourth : c.as_str-2.result.now ≡ hash_lines a.hashes = c.as_str-2.ensures.value ∙ c.in_ok-hashes.ensures.text in
    subst (λ bytes. IfOk c.joined.result (λ text. text.items ≡ bytes)) (λ i. first i ++ (second i ++ (third i ++ fourth i))) c.joined.ensures.text
