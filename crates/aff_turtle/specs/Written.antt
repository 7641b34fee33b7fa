-- The one spelling of triples, and which can be spelled.
use Rattle.std.specs.Prelude.{◌≡◌, ℕ, ◌==◌, if◌then◌else◌, true, List, [], ◌∷◌, ◌++◌, length, slice_index}
use Rattle.std.specs.List.{flat_map, prefix_len, AllByRecursion}
use Rattle.std.specs.Str.{chars, encode_utf8_all, IsUtf8}
use Rattle.aff_turtle.specs.Codes as code
use Rattle.aff_turtle.specs.Characters.{is_letter, is_in}
use Rattle.aff_turtle.specs.Tokens.{is_absolute, tag_len}
use Rattle.aff_turtle.specs.Triples.{Term, Resource, Literal, Fact, lang_string}
use Rattle.aff_turtle.specs.declared.class.Class.TheVariants as class

-- `"`, backslash, line feed, carriage return and tab behind a backslash; every other character as it is
unfoldable pub spelled : ℕ → List ℕ
spelled c =
    if c == code.quote then code.backslash ∷ code.quote ∷ []
    else if c == code.backslash then code.backslash ∷ code.backslash ∷ []
    else if c == code.line_feed then code.backslash ∷ code.lower_n ∷ []
    else if c == code.carriage_return then code.backslash ∷ code.lower_r ∷ []
    else if c == code.tab then code.backslash ∷ code.lower_t ∷ []
    else c ∷ []

abbrev pub in_angles : List ℕ → List ℕ
in_angles cs = code.less ∷ cs ++ code.greater ∷ []

-- the language, or where there is none the datatype
abbrev pub annotation : List ℕ → List ℕ → List ℕ
annotation datatype [] = code.caret ∷ code.caret ∷ in_angles (chars datatype)
annotation datatype (c ∷ cs) = code.at_sign ∷ chars (c ∷ cs)

abbrev pub object_text : Term → List ℕ
object_text (Resource iri) = in_angles (chars iri)
object_text (Literal text datatype lang) = code.quote ∷ flat_map spelled (chars text) ++ code.quote ∷ annotation datatype lang

-- a triple, its parts with a space between them, and ` .` and a line feed
abbrev pub line : Fact → List ℕ
line t =
    in_angles (chars t.subject) ++ code.space ∷ in_angles (chars t.predicate) ++ code.space ∷ object_text t.object
    ++ code.space ∷ code.dot ∷ code.line_feed ∷ []

-- the bytes that are written
unfoldable pub written : List Fact → List ℕ
written ts = encode_utf8_all (flat_map line ts)

-- what may stand between `<` and `>`
pub record IsIri (iri : List ℕ) : Type 0 where
  pub text : IsUtf8 iri
  pub allowed : prefix_len (is_in class.Iri) (chars iri) ≡ length (chars iri)
  pub absolute : is_absolute (chars iri) ≡ true

-- what may stand behind `@`
pub record IsTag (lang : List ℕ) : Type 0 where
  pub text : IsUtf8 lang
  pub begins : is_letter (slice_index (chars lang) 0) ≡ true
  pub whole : tag_len (chars lang) ≡ length (chars lang)

-- a language only with the datatype that says so
abbrev pub IsAnnotation : List ℕ → List ℕ → Type 0
IsAnnotation datatype [] = IsIri datatype
IsAnnotation datatype (c ∷ cs) = (datatype ≡ lang_string) × IsTag (c ∷ cs)

abbrev pub IsTerm : Term → Type 0
IsTerm (Resource iri) = IsIri iri
IsTerm (Literal text datatype lang) = IsUtf8 text × IsAnnotation datatype lang

-- a triple that can be written
pub record IsFact (t : Fact) : Type 0 where
  pub subject : IsIri t.subject
  pub predicate : IsIri t.predicate
  pub object : IsTerm t.object

abbrev pub AreFacts : List Fact → Type 0
AreFacts ts = AllByRecursion IsFact ts
