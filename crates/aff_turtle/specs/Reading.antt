-- What a text says, and why it is refused.
use Rattle.std.specs.Prelude.{◌≡◌, ℕ, List, [], ◌∷◌, ◌++◌, Option, Some, None, codes, if◌then◌else◌}
use Rattle.std.specs.Str.{bytes_eq, chars, IsUtf8}
use Rattle.std.specs.Str.Lossy.{utf8_valid_len}
use Rattle.aff_turtle.specs.Tokens.{Token, Placed, At, Name, Iri, Dot, tokens}
use Rattle.aff_turtle.specs.Triples.{Fact}
use Rattle.aff_turtle.specs.Prefixes.{Prefix}
use Rattle.aff_turtle.specs.Machine.{add}
use Rattle.aff_turtle.specs.Productions.{IsDocument}
use Rattle.aff_turtle.specs.Refusals.{refusal}
use Rattle.aff_turtle.specs.declared.error.TurtleError.{TurtleError}
use Rattle.aff_turtle.specs.declared.error.TurtleError.TheVariants.{Utf8, Memory}

-- a text is in the grammar, with these triples
pub record IsTurtle (bytes : List ℕ) (ts : List Fact) : Type 0 where
  pub text : IsUtf8 bytes
  pub document : IsDocument [] (tokens 1 0 (chars bytes)) ts

-- something makes a whole text of these tokens
abbrev pub MayGoOn : List Placed → Type 0
MayGoOn front = (more : List Placed) × (out : List Fact) × IsDocument [] (front ++ more) out

-- what four tokens declare: `@prefix`, a name, an IRI and `.`
abbrev pub line_declares : Token → Token → Token → Token → Option Prefix
line_declares (At word) (Name name []) (Iri iri) Dot = if bytes_eq word (codes "prefix") then Some (record { name = name; iri = iri }) else None
line_declares _ _ _ _ = None

-- what the prefix line at the front declares, if there is one
abbrev pub line_at : List Placed → Option Prefix
line_at (t ∷ u ∷ v ∷ w ∷ ts) = line_declares t.token u.token v.token w.token
line_at _ = None

-- the prefixes that tokens declare, before those of earlier ones
abbrev pub declares : List Prefix → List Placed → List Prefix
declares ps [] = ps
declares ps (t ∷ ts) = declares (add (line_at (t ∷ ts)) ps) ts

-- the first token that does not continue the grammar, and its refusal
pub record IsStopped (ts : List Placed) (why : TurtleError) : Type 0 where
  pub front : List Placed
  pub bad : Placed
  pub rest : List Placed
  pub whole : ts ≡ front ++ bad ∷ rest
  pub goes_on : MayGoOn front
  pub stops : ¬ (MayGoOn (front ++ bad ∷ []))
  pub reason : why ≡ refusal (declares [] front) bad.line bad.token

-- a text is refused for this: it is no text, or its first token that does not continue the grammar
abbrev pub IsRefused : List ℕ → TurtleError → Type 0
IsRefused bytes Memory = ⊥
IsRefused bytes (Utf8 at) = ¬ (IsUtf8 bytes) × (at ≡ utf8_valid_len bytes)
IsRefused bytes why = IsUtf8 bytes × IsStopped (tokens 1 0 (chars bytes)) why
