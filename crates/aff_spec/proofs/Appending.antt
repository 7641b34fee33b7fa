-- Appends that are made one by one, from a function of their place.
use Rattle.std.proofs.Common.{◌≡◌, ℕ, List, ◌++◌}
use Rattle.std.proofs.lemmas.List.{map-append}
use Rattle.aff_spec.specs.Appends.{appends_to}

pub appends_to-append : (name : List ℕ) (xs ys : List (List ℕ)) → appends_to name (xs ++ ys) ≡ appends_to name xs ++ appends_to name ys
appends_to-append name xs ys = map-append (λ piece. (name, piece)) xs ys
