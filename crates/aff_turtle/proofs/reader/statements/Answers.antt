use Rattle.std.proofs.Common.{[], arith, sym, ap, ◌∙◌}
use Rattle.std.specs.Option.{option_map}
use Rattle.aff_turtle.specs.Tokens.{tokens}
use Rattle.aff_turtle.specs.Machine.{Statement, Refuses, triples}
use Rattle.aff_turtle.specs.Views.{token_of, placed_of, tokens_behind, state_of, step_of}
use Rattle.aff_turtle.proofs.Statements.{stops, fails_with, goes_past, goes_to_end}
use Rattle.aff_turtle.proofs.reader.statements.Goals as goal

pub returns-in_default : goal.returns-in_default
returns-in_default c =
    let placed = c.in_ok-placed.placed in
    let total = triples [] Statement (tokens 1 0 c.args.chars.now) in
    let none = ap (option_map step_of) (sym c.in_default.is) ∙ c.in_ok-step.ensures in
    let stopped = stops c.tokens.found.items c.tokens.prefixes (state_of c.tokens.state) (placed_of placed) (tokens_behind (token_of placed.token) placed.line placed.rest.now)
    (tokens c.tokens.line 0 c.tokens.rest.now) total c.in_ok-placed.ensures.tokens none c.tokens.invariant.so_far in
    fails_with c.refusal.result total (stopped ∙ ap (λ why. Refuses why) (sym c.refusal.ensures))

pub returns-in-End : goal.returns-in-End
returns-in-End c =
    rw c.in_ok-keep.ensures (goes_to_end c.tokens.found.items c.tokens.prefixes c.declare.new.prefixes (state_of c.tokens.state) c.in_ok-placed.placed (tokens c.tokens.line 0 c.tokens.rest.now)
    (step_of c.in-Some.step) (triples [] Statement (tokens 1 0 c.args.chars.now)) c.in_ok-placed.ensures.tokens c.in-End.is (ap (option_map step_of) (sym c.in-Some.is) ∙ c.in_ok-step.ensures)
    c.in_ok-declare.ensures c.tokens.invariant.so_far)

pub tokens-preserved-in_default-token : goal.tokens-preserved-in_default-token
tokens-preserved-in_default-token c = record {
  so_far = rw c.in_ok-keep.ensures (goes_past c.tokens.found.items c.tokens.prefixes c.declare.new.prefixes (state_of c.tokens.state) c.in_ok-placed.placed (tokens c.tokens.line 0 c.tokens.rest.now)
      (step_of c.in-Some.step) (triples [] Statement (tokens 1 0 c.args.chars.now)) c.in_ok-placed.ensures.tokens c.in_default-token.not-End (ap (option_map step_of) (sym c.in-Some.is) ∙ c.in_ok-step.ensures)
      c.in_ok-declare.ensures c.tokens.invariant.so_far);
  fits = omega (arith, c.in_ok-placed.ensures.inside, c.tokens.invariant.fits);
}

pub tokens-preserved : goal.tokens-preserved
tokens-preserved c = record {
  so_far = rw c.in_ok-keep.ensures (goes_past c.tokens.found.items c.tokens.prefixes c.declare.new.prefixes (state_of c.tokens.state) c.in_ok-placed.placed (tokens c.tokens.line 0 c.tokens.rest.now)
      (step_of c.in-Some.step) (triples [] Statement (tokens 1 0 c.args.chars.now)) c.in_ok-placed.ensures.tokens c.in_default-token.not-End (ap (option_map step_of) (sym c.in-Some.is) ∙ c.in_ok-step.ensures)
      c.in_ok-declare.ensures c.tokens.invariant.so_far);
  fits = omega (arith, c.in_ok-placed.ensures.inside, c.tokens.invariant.fits);
}
