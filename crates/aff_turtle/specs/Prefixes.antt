-- Prefixes, and the IRIs that tokens name by them.
use Rattle.std.specs.Prelude.{◌≡◌, ℕ, if◌then◌else◌, List, [], ◌∷◌, ◌++◌, codes, Option, Some, None}
use Rattle.std.specs.Option.{option_map}
use Rattle.std.specs.Str.{bytes_eq}
use Rattle.aff_turtle.specs.Tokens.{Token, Iri, Name, Word}
use Rattle.aff_turtle.specs.Triples.{rdf_type}

-- the IRI that a prefix stands for
pub record Prefix : Type 0 where
  pub name : List ℕ
  pub iri : List ℕ

-- what a prefix stands for, by the declarations so far, the newest first
abbrev pub declared : List Prefix → List ℕ → Option (List ℕ)
declared [] name = None
declared (p ∷ ps) name = if bytes_eq p.name name then Some p.iri else declared ps name

-- each name stands for the same
abbrev pub DeclareAlike : List Prefix → List Prefix → Type 0
DeclareAlike ps qs = (name : List ℕ) → declared ps name ≡ declared qs name

-- the IRI that a token names
abbrev pub named : List Prefix → Token → Option (List ℕ)
named ps (Iri text) = Some text
named ps (Name prefix local) = option_map (λ iri. iri ++ local) (declared ps prefix)
named ps _ = None

-- the predicate that a token names
abbrev pub predicate : List Prefix → Token → Option (List ℕ)
predicate ps (Word word) = if bytes_eq word (codes "a") then Some rdf_type else None
predicate ps token = named ps token
