-- Prefixes in a map from their names.
use Rattle.std.specs.Prelude.{ℕ, List, map}
use denote.Ref.{Bor}
use Rattle.aff_turtle.specs.Prefixes.{Prefix}

-- each entry as a declaration
abbrev pub prefixes_of : List (Bor (List ℕ) × Bor (List ℕ)) → List Prefix
prefixes_of entries = map (λ e. record { name = e.0.now; iri = e.1.now }) entries
