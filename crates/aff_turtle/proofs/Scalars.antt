-- The codes that are characters.
use Rattle.std.proofs.Common.{◌≡◌, ℕ, true, false, arith}
use Rattle.std.proofs.lemmas.Bool.Decides.{nat_tests}
use Rattle.std.specs.Char.{InScalarRange, OutOfScalarRange}
use Rattle.aff_turtle.specs.Characters.{is_character}

pub character : (n : ℕ) → InScalarRange n → is_character n ≡ true
unfolding is_character
character n h = grind (arith, nat_tests)

pub no_character : (n : ℕ) → OutOfScalarRange n → is_character n ≡ false
unfolding is_character
no_character n h = grind (arith, nat_tests)

pub ruleset scalars = (character, no_character)
