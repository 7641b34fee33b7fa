use Rattle.std.proofs.Common.{◌≡◌, [], sym, ap, subst, ◌∙◌}
use Rattle.std.specs.Str.{chars}
use Rattle.aff_turtle.specs.Tokens.{tokens}
use Rattle.aff_turtle.specs.Machine.{Statement, triples}
use Rattle.aff_turtle.specs.Outcomes.{Matches, reading}
use Rattle.aff_turtle.proofs.Statements.{reads_text, reads_no_text}
use Rattle.aff_turtle.proofs.reader.read_bytes.Goals as goal

pub returns-in_ok-chars-in-Ok : goal.returns-in_ok-chars-in-Ok
returns-in_ok-chars-in-Ok c =
    let bytes = c.args.text.now in
    let text : c.deref.result.now ≡ chars bytes = c.deref.ensures.value ∙ c.in_ok-chars-in-Ok.ensures ∙ ap chars c.in-Ok.ensures.cases.0 in
    let e : triples [] Statement (tokens 1 0 c.deref.result.now) ≡ reading bytes = ap (λ cs. triples [] Statement (tokens 1 0 cs)) text ∙ sym (reads_text bytes c.in-Ok.ensures.cases.1) in
    subst (λ r. Matches (λ found. found.items) c.statements.result r) e c.statements.ensures

pub returns-in-Err : goal.returns-in-Err
returns-in-Err c = reads_no_text c.args.text.now c.valid_up_to.result c.in-Err.ensures.cases.0 (c.valid_up_to.ensures ∙ c.in-Err.ensures.valid_len)
