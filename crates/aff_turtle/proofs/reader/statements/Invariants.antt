use Rattle.std.proofs.Common.{◌≡◌, ◌+◌, ◌^◌, ◌<◌, [], length}
use Rattle.aff_turtle.specs.Tokens.{tokens}
use Rattle.aff_turtle.specs.Machine.{Statement, before, triples}
use Rattle.aff_turtle.specs.Views.{state_of}
use Rattle.aff_turtle.proofs.reader.statements.Given as goal

abbrev pub invariant-tokens : goal.invariant-tokens
invariant-tokens l = record {
  so_far : before l.found.items (triples l.prefixes (state_of l.state) (tokens l.line 0 l.rest)) ≡ triples [] Statement (tokens 1 0 l.chars);
  fits : l.line + length l.rest < 2 ^ 64;
}

abbrev pub decreases-tokens : goal.decreases-tokens
decreases-tokens l = length l.rest
