-- Where a token begins.
use Rattle.std.specs.Prelude.{◌≡◌, ◌≢◌, ℕ, false, List, [], ◌∷◌}
use Rattle.aff_turtle.specs.Codes as code
use Rattle.aff_turtle.specs.Characters.{is_blank}

-- the text is at its end, or begins with neither white space nor a comment
abbrev pub BeginsToken : List ℕ → Type 0
BeginsToken [] = Unit {0}
BeginsToken (c ∷ cs) = (c ≢ code.line_feed) × (is_blank c ≡ false) × (c ≢ code.hash)
