-- Tokens and states without where they lie in memory.
use Rattle.std.specs.Prelude.{ℕ, List, []}
use Rattle.std.specs.Option.{option_map}
use Rattle.aff_turtle.specs.Tokens.{Token, Iri, Name, Escaped, Colons, Quoted, At, Word, Integer, Carets, Dot, Semicolon, Comma, Other, Bad, End, Placed, tokens}
use Rattle.aff_turtle.specs.Prefixes.{Prefix}
use Rattle.aff_turtle.specs.Machine.{State, Statement, PrefixName, PrefixIri, PrefixEnd, Predicate, NextPredicate, Value, Annotation, Datatype, Separator, Done, Step}
use Rattle.aff_turtle.specs.declared.token.Token.{Token as KeptToken}
use Rattle.aff_turtle.specs.declared.token.Token.TheVariants as kept
use Rattle.aff_turtle.specs.declared.tokens.Placed.{Placed as KeptPlaced}
use Rattle.aff_turtle.specs.declared.prefixes.Prefix.{Prefix as KeptPrefix}
use Rattle.aff_turtle.specs.declared.state.State.{State as KeptState}
use Rattle.aff_turtle.specs.declared.state.State.TheVariants as states
use Rattle.aff_turtle.specs.declared.state.Step.{Step as KeptStep}

abbrev pub token_of : KeptToken → Token
token_of (kept.Iri text) = Iri text.now
token_of (kept.Name prefix text) = Name prefix.now text.now
token_of (kept.Escaped prefix) = Escaped prefix.now
token_of (kept.Colons prefix) = Colons prefix.now
token_of (kept.Quoted text) = Quoted text.items
token_of (kept.At text) = At text.now
token_of (kept.Word text) = Word text.now
token_of (kept.Integer text) = Integer text.now
token_of kept.Carets = Carets
token_of kept.Dot = Dot
token_of kept.Semicolon = Semicolon
token_of kept.Comma = Comma
token_of kept.Other = Other
token_of kept.Bad = Bad
token_of kept.End = End

abbrev pub placed_of : KeptPlaced → Placed
placed_of p = record { line = p.line; token = token_of p.token }

-- the tokens behind one that was read
abbrev pub tokens_behind : Token → ℕ → List ℕ → List Placed
tokens_behind End line cs = []
tokens_behind _ line cs = tokens line 0 cs

abbrev pub prefix_of : KeptPrefix → Prefix
prefix_of p = record { name = p.name.now; iri = p.iri.now }

abbrev pub state_of : KeptState → State
state_of states.Statement = Statement
state_of states.PrefixName = PrefixName
state_of (states.PrefixIri name) = PrefixIri name.now
state_of (states.PrefixEnd name iri) = PrefixEnd name.now iri.now
state_of (states.Predicate s) = Predicate s.items
state_of (states.NextPredicate s) = NextPredicate s.items
state_of (states.Value s p) = Value s.items p.items
state_of (states.Annotation s p text) = Annotation s.items p.items text.items
state_of (states.Datatype s p text) = Datatype s.items p.items text.items
state_of (states.Separator s p) = Separator s.items p.items
state_of states.Done = Done

abbrev pub step_of : KeptStep → Step
step_of s = record { state = state_of s.state; declares = option_map prefix_of s.declares; made = s.made }
