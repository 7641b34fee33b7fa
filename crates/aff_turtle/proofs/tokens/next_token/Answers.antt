use Rattle.std.proofs.Common.{◌≡◌, ◌<◌, ◌-◌, length, drop, arith, sym, ap, ◌∙◌}
use Rattle.aff_turtle.specs.Tokens.{Taken}
use Rattle.aff_turtle.specs.Views.{token_of}
use Rattle.aff_turtle.proofs.Steps.{first_token, shorter}
use Rattle.aff_turtle.proofs.tokens.next_token.Goals as goal

pub returns-clause-tokens : goal.returns-clause-tokens
returns-clause-tokens c =
    let place = c.past_blanks-place.result in
    let t : Taken = (token_of c.in_ok-token.token, c.in_ok-token.taken) in
    let behind : c.behind-rest.result.now ≡ drop (t.1 - 1) (drop 1 place.chars.now) = c.behind-rest.ensures.value ∙ ap (λ n. drop n c.behind-after.result.now) c.saturating_sub.ensures ∙ ap (drop (t.1 - 1)) c.behind-after.ensures.value in
    sym c.past_blanks-place.ensures.tokens ∙ first_token place.line place.chars.now c.behind-rest.result.now t c.past_blanks-place.ensures.begins c.in_ok-token.ensures behind

pub returns-clause-shorter : goal.returns-clause-shorter
returns-clause-shorter c = λ h.
    let place = c.past_blanks-place.result in
    let t : Taken = (token_of c.in_ok-token.token, c.in_ok-token.taken) in
    let behind : c.behind-rest.result.now ≡ drop (t.1 - 1) (drop 1 place.chars.now) = c.behind-rest.ensures.value ∙ ap (λ n. drop n c.behind-after.result.now) c.saturating_sub.ensures ∙ ap (drop (t.1 - 1)) c.behind-after.ensures.value in
    let less : length c.behind-rest.result.now < length place.chars.now = shorter place.chars.now c.behind-rest.result.now t c.in_ok-token.ensures behind h in
    omega (arith, less, c.past_blanks-place.ensures.shorter)
