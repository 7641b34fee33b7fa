use Rattle.std.proofs.Common.{◌≡◌, ℕ, List, subst, ◌∙◌}
use Rattle.std.specs.Prelude.{IfOk}
use Rattle.std.specs.String.{string_bytes}
use Rattle.aff_report.proofs.Lines.{line_of_piece}
use Rattle.aff_report.proofs.history.publication_line.Goals as goal

pub returns : goal.returns
returns g c =
    subst (λ (bytes : List ℕ). IfOk c.line_of_words.result (λ text. string_bytes text ≡ bytes))
    (line_of_piece c.args.front c.args.piece.now _ c.deref-3.result.now c.how.result.now c.deref-4.result.now c.deref-5.result.now c.deref.result.now c.deref-2.result.now c.piece.view_is c.deref.ensures.value c.deref-2.ensures.value
    (c.deref-3.ensures ∙ c.in_ok-numbers.ensures) c.how.ensures (c.deref-4.ensures ∙ c.in_ok-bad.ensures) (c.deref-5.ensures ∙ c.in_ok-places.ensures))
    c.line_of_words.ensures
