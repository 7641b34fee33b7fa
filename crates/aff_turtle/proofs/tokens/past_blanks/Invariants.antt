use Rattle.std.proofs.Common.{◌≡◌, ◌≤◌, ◌+◌, length}
use Rattle.aff_turtle.specs.Tokens.{tokens}
use Rattle.aff_turtle.proofs.tokens.past_blanks.Given as goal

abbrev pub invariant-loop-c : goal.invariant-loop-c
invariant-loop-c l = record {
  so_far : tokens l.line 0 l.rest ≡ tokens l.fn.line 0 l.chars;
  inside : l.line + length l.rest ≤ l.fn.line + length l.chars;
  shorter : length l.rest ≤ length l.chars;
}

abbrev pub decreases-loop-c : goal.decreases-loop-c
decreases-loop-c l = length l.rest
