-- Why a token that does not continue the grammar is refused.
use Rattle.std.specs.Prelude.{ℕ, Bool, true, false, ◌&&◌, ◌||◌, ◌==◌, if◌then◌else◌, List, [], ◌∷◌, codes, is_some}
use Rattle.std.specs.Char.{to_ascii_lowercase}
use Rattle.std.specs.Str.{bytes_eq}
use Rattle.aff_turtle.specs.Tokens.{Token, Name, Escaped, Colons, At, Word, Other}
use Rattle.aff_turtle.specs.Prefixes.{Prefix, declared}
use Rattle.aff_turtle.specs.declared.error.TurtleError.{TurtleError}
use Rattle.aff_turtle.specs.declared.error.TurtleError.TheVariants.{Syntax, NoPrefix, Unsupported}

-- a text is this word, in any case; the word itself is written small
abbrev pub is_word : List ℕ → List ℕ → Bool
is_word [] [] = true
is_word [] (c ∷ cs) = false
is_word (w ∷ ws) [] = false
is_word (w ∷ ws) (c ∷ cs) = to_ascii_lowercase c == w && is_word ws cs

abbrev pub unless_declared : List Prefix → List ℕ → ℕ → TurtleError → TurtleError
unless_declared ps prefix line fault = if is_some (declared ps prefix) then fault else NoPrefix line

-- the refusal of a token on a line, under the prefixes that are declared before it
abbrev pub refusal : List Prefix → ℕ → Token → TurtleError
refusal ps line (Name prefix local) = unless_declared ps prefix line (Syntax line)
refusal ps line (Colons prefix) = unless_declared ps prefix line (Syntax line)
refusal ps line (Escaped prefix) = unless_declared ps prefix line (Unsupported line)
refusal ps line Other = Unsupported line
refusal ps line (At word) = if bytes_eq word (codes "base") then Unsupported line else Syntax line
refusal ps line (Word word) = if is_word (codes "prefix") word || is_word (codes "base") word then Unsupported line else Syntax line
refusal ps line _ = Syntax line
