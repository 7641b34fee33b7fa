-- What holds of the format itself.
use Rattle.std.specs.Prelude.{◌≡◌, ◌⊎◌, ℕ, List}
use Rattle.aff_turtle.specs.Triples.{Fact}
use Rattle.aff_turtle.specs.Reading.{IsTurtle, IsRefused}
use Rattle.aff_turtle.specs.Written.{AreFacts, written}
use Rattle.aff_turtle.specs.declared.error.TurtleError.{TurtleError}

-- what is written is in the grammar, with the triples that were written
abbrev pub ReadsBack : Type 0
ReadsBack = (ts : List Fact) → AreFacts ts → IsTurtle (written ts) ts

-- a text says one list of triples at most
abbrev pub SaysOnce : Type 0
SaysOnce = (bytes : List ℕ) (ts us : List Fact) → IsTurtle bytes ts → IsTurtle bytes us → ts ≡ us

-- no text that is in the grammar is refused
abbrev pub TakesOrRefuses : Type 0
TakesOrRefuses = (bytes : List ℕ) (ts : List Fact) (why : TurtleError) → IsTurtle bytes ts → IsRefused bytes why → ⊥

-- a text is refused for one reason at most
abbrev pub RefusesOnce : Type 0
RefusesOnce = (bytes : List ℕ) (e f : TurtleError) → IsRefused bytes e → IsRefused bytes f → e ≡ f

-- each text is in the grammar, or is refused
abbrev pub Decides : Type 0
Decides = (bytes : List ℕ) → ((ts : List Fact) × IsTurtle bytes ts) ⊎ ((why : TurtleError) × IsRefused bytes why)
