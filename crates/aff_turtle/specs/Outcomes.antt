-- What the code returns beside what the machine gives.
use Rattle.std.specs.Prelude.{◌≡◌, ℕ, List, [], Result, Ok, Err, if◌then◌else◌}
use Rattle.std.specs.Str.{chars, is_utf8}
use Rattle.std.specs.Str.Lossy.{utf8_valid_len}
use Rattle.aff_turtle.specs.Tokens.{tokens}
use Rattle.aff_turtle.specs.Triples.{Fact}
use Rattle.aff_turtle.specs.Machine.{Statement, Outcome, Gives, Refuses, triples}
use Rattle.aff_turtle.specs.declared.error.TurtleError.{TurtleError}
use Rattle.aff_turtle.specs.declared.error.TurtleError.TheVariants.{Utf8, Memory}

-- what the machine gives for a text
unfoldable pub reading : List ℕ → Outcome
reading bytes = if is_utf8 bytes then triples [] Statement (tokens 1 0 (chars bytes)) else Refuses (Utf8 (utf8_valid_len bytes))

-- a refusal is the machine's, unless memory ran out
abbrev pub Fails : TurtleError → Outcome → Type 0
Fails Memory outcome = Unit {0}
Fails why outcome = outcome ≡ Refuses why

-- what was returned, seen by view, is what the machine gives, unless memory ran out
abbrev pub Matches : {X : Type 0} → (X → List Fact) → Result X TurtleError → Outcome → Type 0
Matches view (Ok found) outcome = outcome ≡ Gives (view found)
Matches view (Err why) outcome = Fails why outcome
