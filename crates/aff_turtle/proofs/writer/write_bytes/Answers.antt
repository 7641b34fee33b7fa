use Rattle.std.proofs.Common.{◌≡◌, sym, ap, subst, ◌∙◌}
use Rattle.std.specs.Str.{encode_utf8_all}
use Rattle.std.specs.String.{string_bytes}
use Rattle.aff_turtle.specs.Reading.{IsTurtle}
use Rattle.aff_turtle.specs.Written.{written}
use Rattle.aff_turtle.proofs.Again.{read_again}
use Rattle.aff_turtle.proofs.Readings.{given}
use Rattle.aff_turtle.proofs.writer.write_bytes.Goals as goal

pub returns-clause-again : goal.returns-clause-again
unfolding written
returns-clause-again c =
    let ts = c.args.triples.now in
    let text : string_bytes c.in_ok-text.text ≡ written ts = c.in_ok-text.ensures ∙ ap encode_utf8_all (c.deref.ensures.value ∙ c.in_ok-chars.ensures) in
    rw c.into_bytes.ensures.value (subst (λ bytes. IsTurtle bytes ts) (sym text) (given (written ts) ts (read_again ts c.requires)))
